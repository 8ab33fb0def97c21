-- The rows of the borrows leave alike turns alike, where what they read is seen.
use Rattle.std.proofs.Common.{◌≡◌, ◌+◌, ◌-◌, ◌*◌, ◌<◌, ◌≤◌, ℕ, Bool, true, false, not, leb, ltb, eqb, is_some, List, [], ◌∷◌, min, Option, Some, None, refl, sym, ap, cond, arith, bit_and}
use Rattle.std.specs.Prelude.{option_map, Contains}
use Rattle.std.proofs.lemmas.List.Elements.{Contains-append_left, Contains-append_right}
use Rattle.kernel_abi.specs.Arguments.{borrow_args, info_args}
use Rattle.kernel_abi.specs.Faults.{usage_number, access_number}
use Rattle.kernel_abi.specs.Ids.{index_of}
use Rattle.kernel_abi.specs.declared.Access.TheVariants.{KernelRead}
use Rattle.kernel_abi.specs.declared.Borrow.{Borrow}
use Rattle.kernel_abi.specs.declared.Borrow.TheVariants as borrow
use Rattle.kernel_abi.specs.declared.Ending.{Ending}
use Rattle.kernel_abi.specs.declared.Fault.{Fault}
use Rattle.kernel_abi.specs.declared.Health.TheVariants.{Faulted}
use Rattle.kernel_abi.specs.declared.LeaseEntry.{LeaseEntry}
use Rattle.kernel_abi.specs.declared.Note.TheVariants as note
use Rattle.kernel_abi.specs.declared.Usage.TheVariants.{BadTaskIndex, InvalidSlice, OffsetOutOfRange, LeaseOutOfRange}
use Rattle.kernel_abi.specs.declared.arguments.BorrowArgs.{BorrowArgs}
use Rattle.region_check.specs.declared.Right.TheVariants.{Read as ToRead}
use Rattle.mem_banks.specs.Memory.{number_of}
use Rattle.task_table.specs.model.State.{Setup, Call, Listen, Own, Lease, Entry, Leased, Read, Turn}
use Rattle.task_table.specs.declared.slot.Slice.{Slice}
use Rattle.task_table.specs.model.Reading.{task_at, listen_of, arguments, is_out, is_dead, is_valid, bad_byte}
use Rattle.task_table.specs.model.Effects.{changed, without_listen, with_health, noted, given, returned, past_syscall, bits_added, bits_cleared, woken_by, woken, posted, closed, faulted_as, copied, looked}
use Rattle.task_table.specs.model.Rows.{goes_on_with}
use Rattle.task_table.specs.model.Borrows.{entry_range, grant, lease_range, entry_read, Way, reading, writing, moved, no_lease, refused, buffer_of, part_of, lent, granted, borrowed_by, borrowed, uninformed, grant_answered, informed_by, informed}
use Rattle.board_model.specs.Alike.{Viewer, IsAttentive, seen_call, IsAlike, AreSeen, IsAlikeWhereSeen}
use Rattle.board_model.proofs.Alike.{taken_alike, bytes_alike}
use Rattle.board_model.proofs.AlikeRows.{by_test, by_same, by_case, surely, alike-noted, alike-copied, alike-looked, alike-misused, alike-denied, alike-goes_on_with, alike-answers, args, is_out_same, is_dead_same, dead_code_same}
use Rattle.board_model.proofs.AlikeSends.{by_seen}
use Rattle.board_model.proofs.Sight.{IsOpen, checked_seen}

-- ## posts and faults read nothing

reads-woken_by : (i : ℕ) (l : Option Listen) (t : Turn) → (woken_by i l t).reads ≡ t.reads
unfolding returned noted given bits_cleared
reads-woken_by i None t = refl
reads-woken_by i (Some l) t = go (eqb (bit_and (task_at t.state i).posted l.mask) 0)
  where
    took : Turn
    took = returned i (given i (0 ∷ 0xFFFF ∷ bit_and (task_at t.state i).posted l.mask ∷ 0 ∷ 0 ∷ 0 ∷ []) (bits_cleared i l.mask (changed (without_listen i) t)))

    go : (b : Bool) → (cond b t took).reads ≡ t.reads
    go true = refl
    go false = refl

reads-posted : (i bits : ℕ) (t : Turn) → (posted i bits t).reads ≡ t.reads
unfolding posted woken bits_added noted
reads-posted i bits t = reads-woken_by i (listen_of (bits_added i bits t).state i) (bits_added i bits t)

reads-faulted_as : (g : Setup) (i : ℕ) (fault : Fault) (ending : Ending) (t : Turn) → (faulted_as g i fault ending t).reads ≡ t.reads
unfolding faulted_as closed noted with_health
reads-faulted_as g i fault ending t = go (eqb i 0)
  where
    shut : Turn
    shut = closed i ending (noted (note.Fault i fault) (changed (without_listen i) (with_health i (Faulted fault) t)))

    go : (b : Bool) → (cond b shut (posted 0 g.fault_bits shut)).reads ≡ t.reads
    go true = refl
    go false = reads-posted 0 g.fault_bits shut

reads-goes_on_with : (c : ℕ) (values : List ℕ) (t : Turn) → (goes_on_with c values t).reads ≡ t.reads
unfolding returned noted past_syscall given
reads-goes_on_with c values t = refl

-- a read that is there stays there
record Keeps (r : Read) (t : Turn) : Type 0 where
  there : Contains t.reads r

keeps-row : (r : Read) (b : Bool) {t u : Turn} → Keeps r t → Keeps r u → Keeps r (cond b t u)
keeps-row r true x y = x
keeps-row r false x y = y

keeps-faulted : (r : Read) (g : Setup) (i : ℕ) (fault : Fault) (ending : Ending) (t : Turn) → Keeps r t → Keeps r (faulted_as g i fault ending t)
keeps-faulted r g i fault ending t h = record { there = rw (reads-faulted_as g i fault ending t) h.there }

keeps-on : (r : Read) (c : ℕ) (values : List ℕ) (t : Turn) → Keeps r t → Keeps r (goes_on_with c values t)
keeps-on r c values t h = record { there = rw (reads-goes_on_with c values t) h.there }

keeps-moved : (r : Read) (b : Borrow) (k : Call) (leased own n : ℕ) (t : Turn) → Keeps r t → Keeps r (moved b k leased own n t)
unfolding copied looked
keeps-moved r borrow.Read k leased own n t h = record { there = Contains-append_left t.reads (record { call = k.number; part = Leased; base = leased; len = n } ∷ []) r h.there }
keeps-moved r borrow.Write k leased own n t h = record { there = h.there }
keeps-moved r borrow.Info k leased own n t h = h

keeps-noted_borrow : (r : Read) (number : ℕ) (b : Borrow) (lease offset n : ℕ) (t : Turn) → Keeps r t → Keeps r (noted (note.Borrow number b lease offset n) t)
unfolding noted
keeps-noted_borrow r number b lease offset n t h = record { there = h.there }

keeps-granted : (r : Read) (g : Setup) (way : Way) (c : ℕ) (x : BorrowArgs) (k : Call) (e : LeaseEntry) (t : Turn) → Keeps r t → Keeps r (granted g way c x k e t)
keeps-granted r g way c x k e t h =
    let buffer = buffer_of x in
    let part = part_of x e in
    let bad = bad_byte g k.client.index way.lender part in
    keeps-row r (not (is_valid (lease_range e))) (keeps-on r c _ _ (keeps-faulted r g _ _ _ t h)) (
    keeps-row r (eqb (bit_and e.attributes way.bit) 0) (keeps-on r c _ t h) (
    keeps-row r (ltb e.len x.offset) (keeps-faulted r g _ _ _ t h) (
    keeps-row r (not (is_valid buffer)) (keeps-faulted r g _ _ _ t h) (
    keeps-row r (is_some (bad_byte g c way.own buffer)) (keeps-faulted r g _ _ _ t h) (
    keeps-row r (is_some bad) (keeps-on r c _ _ (keeps-faulted r g _ _ _ t h))
    (keeps-on r c _ _ (keeps-noted_borrow r k.number way.borrow x.lease x.offset part.len _ (keeps-moved r way.borrow k part.base x.buffer_base part.len t h))))))))

keeps-grant_answered : (r : Read) (g : Setup) (c lease : ℕ) (k : Call) (e : LeaseEntry) (t : Turn) → Keeps r t → Keeps r (grant_answered g c lease k e t)
keeps-grant_answered r g c lease k e t h =
    keeps-row r (not (is_valid (lease_range e))) (keeps-on r c _ _ (keeps-faulted r g _ _ _ t h))
    (keeps-on r c _ _ (keeps-noted_borrow r k.number borrow.Info lease 0 0 t h))

-- the entry's twelve bytes
entry_of : Call → ℕ → LeaseEntry → Read
entry_of k lease e = record { call = k.number; part = Entry e.attributes e.base e.len; base = k.table + 12 * lease; len = 12 }

entry_there : (k : Call) (lease : ℕ) (e : LeaseEntry) (t : Turn) → Keeps (entry_of k lease e) (entry_read k lease e t)
unfolding looked entry_of
entry_there k lease e t = record { there = Contains-append_right t.reads (entry_of k lease e ∷ []) (entry_of k lease e) (0, omega arith, refl) }

min_below : (x y : ℕ) → min x y ≤ x
min_below x y = omega arith

module _ (w : Viewer) (a : IsAttentive w) where
  grant_same : (k : Call) (lease : ℕ) (t u : Turn) → ((x : ℕ) → k.table + 12 * lease ≤ x → x < k.table + 12 * lease + 12 → w.sees x ≡ true) → IsAlike w t u → grant t.state k lease ≡ grant u.state k lease
  unfolding grant
  grant_same k lease t u see h =
      let p = bytes_alike w.sees t.state.memory u.state.memory (k.table + 12 * lease) 4 h.memory (λ x lo hi. see x (omega arith) (omega arith)) in
      let q = bytes_alike w.sees t.state.memory u.state.memory (k.table + 12 * lease + 4) 4 h.memory (λ x lo hi. see x (omega arith) (omega arith)) in
      let r = bytes_alike w.sees t.state.memory u.state.memory (k.table + 12 * lease + 8) 4 h.memory (λ x lo hi. see x (omega arith) (omega arith)) in
      λ j. record { attributes = number_of (p j); base = number_of (q j); len = number_of (r j) }

  alike-moved : (b : Borrow) (k : Call) (leased own n : ℕ) (t u : Turn) → ((y : ℕ) → own ≤ y → y < own + n → w.sees y ≡ true) → IsAlike w t u → IsAlikeWhereSeen w (moved b k leased own n t) (moved b k leased own n u)
  unfolding copied looked
  alike-moved borrow.Read k leased own n t u mine h =
      let r : Read = record { call = k.number; part = Leased; base = leased; len = n } in
      record { alike = λ see. alike-copied w a Own leased own n _ _ (see r (Contains-append_right t.reads (r ∷ []) r (0, omega arith, refl))) (alike-looked w a r t u h) }
  alike-moved borrow.Write k leased own n t u mine h = surely w a (alike-copied w a (Lease k.number) own leased n t u mine h)
  alike-moved borrow.Info k leased own n t u mine h = surely w a h

  alike-refused : (c code : ℕ) (t u : Turn) → IsAlike w t u → IsAlike w (refused c code t) (refused c code u)
  alike-refused c code t u h = alike-goes_on_with w a c (code ∷ 0 ∷ []) t u h

  alike-uninformed : (c code : ℕ) (t u : Turn) → IsAlike w t u → IsAlike w (uninformed c code t) (uninformed c code u)
  alike-uninformed c code t u h = alike-goes_on_with w a c (code ∷ 0 ∷ 0 ∷ []) t u h

  -- after bytes have moved
  alike-borrowed : (c : ℕ) (values : List ℕ) (number : ℕ) (b : Borrow) (lease offset n : ℕ) (t u : Turn) → IsAlikeWhereSeen w t u → IsAlikeWhereSeen w (goes_on_with c values (noted (note.Borrow number b lease offset n) t)) (goes_on_with c values (noted (note.Borrow number b lease offset n) u))
  unfolding returned noted past_syscall given
  alike-borrowed c values number b lease offset n t u h = record { alike = λ see. alike-goes_on_with w a c values _ _ (alike-noted w a (note.Borrow number b lease offset n) t u refl (h.alike see)) }

  alike-lent : (g : Setup) (way : Way) (c : ℕ) (x : BorrowArgs) (k : Call) (part : Slice) (t u : Turn) → ((y : ℕ) → x.buffer_base ≤ y → y < x.buffer_base + part.len → w.sees y ≡ true) → IsAlike w t u → IsAlikeWhereSeen w (lent g way c x k part t) (lent g way c x k part u)
  alike-lent g way c x k part t u mine h =
      let bad = bad_byte g k.client.index way.lender part in
      by_same (IsAlikeWhereSeen w) (is_some bad) (surely w a (alike-refused c no_lease _ _ (alike-denied w a g k.client.index (access_number way.lender_access) bad t u h)))
      (alike-borrowed c (0 ∷ part.len ∷ []) k.number way.borrow x.lease x.offset part.len _ _ (alike-moved way.borrow k part.base x.buffer_base part.len t u mine h))

  alike-granted : (g : Setup) (way : Way) (c : ℕ) (x : BorrowArgs) (k : Call) (e : LeaseEntry) (t u : Turn) → IsOpen w g c → IsAlike w t u → IsAlikeWhereSeen w (granted g way c x k e t) (granted g way c x k e u)
  alike-granted g way c x k e t u open_to h =
      let buffer = buffer_of x in
      by_same (IsAlikeWhereSeen w) (not (is_valid (lease_range e))) (surely w a (alike-refused c no_lease _ _ (alike-misused w a g k.client.index (usage_number InvalidSlice) t u h))) (
      by_same (IsAlikeWhereSeen w) (eqb (bit_and e.attributes way.bit) 0) (surely w a (alike-refused c no_lease t u h)) (
      by_same (IsAlikeWhereSeen w) (ltb e.len x.offset) (surely w a (alike-misused w a g c (usage_number OffsetOutOfRange) t u h)) (
      by_same (IsAlikeWhereSeen w) (not (is_valid buffer)) (surely w a (alike-misused w a g c (usage_number InvalidSlice) t u h)) (
      by_case (IsAlikeWhereSeen w) (is_some (bad_byte g c way.own buffer)) (surely w a (alike-denied w a g c (access_number way.own_access) (bad_byte g c way.own buffer) t u h)) (λ clear.
      alike-lent g way c x k (part_of x e) t u (λ y lo hi. let few = min_below x.buffer_length (e.len - x.offset) in checked_seen w g c open_to way.own buffer clear y lo (omega arith)) h)))))

  -- an entry is read, and what follows from it
  alike-entry : (k : Call) (lease : ℕ) (f : LeaseEntry → Turn → Turn) → ((r : Read) (e : LeaseEntry) (t : Turn) → Keeps r t → Keeps r (f e t)) → ((e : LeaseEntry) (t u : Turn) → IsAlike w t u → IsAlikeWhereSeen w (f e t) (f e u)) → (t u : Turn) → IsAlike w t u →
      IsAlikeWhereSeen w (f (grant t.state k lease) (entry_read k lease (grant t.state k lease) t)) (f (grant u.state k lease) (entry_read k lease (grant u.state k lease) u))
  unfolding entry_of
  alike-entry k lease f stays rest t u h =
      let e = grant t.state k lease in
      let here = stays (entry_of k lease e) e (entry_read k lease e t) (entry_there k lease e t) in
      record { alike = λ see. go (grant u.state k lease) (grant_same k lease t u (see (entry_of k lease e) here.there) h) see }
    where
      go : (e : LeaseEntry) → grant t.state k lease ≡ e → AreSeen w.sees (f (grant t.state k lease) (entry_read k lease (grant t.state k lease) t)).reads → IsAlike w (f (grant t.state k lease) (entry_read k lease (grant t.state k lease) t)) (f e (entry_read k lease e u))
      go e q see = rw (sym q) ((rest (grant t.state k lease) (entry_read k lease (grant t.state k lease) t) (entry_read k lease (grant t.state k lease) u) (alike-looked w a (entry_of k lease (grant t.state k lease)) t u h)).alike see)

  -- no birth of the call is looked at
  IsBlind : Setup → Way → ℕ → Type 0
  IsBlind g way c = (x : BorrowArgs) (y : Call) (u : Turn) → borrowed_by g way c x (Some (seen_call w.birth y)) u ≡ borrowed_by g way c x (Some y) u

  blind-reading : (g : Setup) (c : ℕ) → IsBlind g reading c
  unfolding IsBlind grant
  blind-reading g c x y u = refl

  blind-writing : (g : Setup) (c : ℕ) → IsBlind g writing c
  unfolding IsBlind grant
  blind-writing g c x y u = refl

  alike-borrowed_by : (g : Setup) (way : Way) (c : ℕ) (x : BorrowArgs) (o p : Option Call) (t u : Turn) → IsBlind g way c → IsOpen w g c → option_map (seen_call w.birth) o ≡ option_map (seen_call w.birth) p → IsAlike w t u → IsAlikeWhereSeen w (borrowed_by g way c x o t) (borrowed_by g way c x p u)
  unfolding IsBlind
  alike-borrowed_by g way c x None None t u blind open_to e h = surely w a (alike-refused c no_lease t u h)
  alike-borrowed_by g way c x None (Some m) t u blind open_to e h = absurd cc
  alike-borrowed_by g way c x (Some k) None t u blind open_to e h = absurd cc
  alike-borrowed_by g way c x (Some k) (Some m) t u blind open_to e h =
      let bad = bad_byte g k.client.index ToRead (entry_range k x.lease) in
      by_seen w a (IsAlikeWhereSeen w) (λ y. borrowed_by g way c x (Some y) u) (λ y. blind x y u) k m inner _
      (by_same (IsAlikeWhereSeen w) (leb k.leases x.lease) (surely w a (alike-misused w a g c (usage_number LeaseOutOfRange) t u h)) (
      by_same (IsAlikeWhereSeen w) (is_some bad) (surely w a (alike-refused c no_lease _ _ (alike-denied w a g k.client.index (access_number KernelRead) bad t u h)))
      (alike-entry k x.lease (λ y z. granted g way c x k y z) (λ r y z q. keeps-granted r g way c x k y z q) (λ y p q r. alike-granted g way c x k y p q open_to r) t u h)))
    where
      inner : seen_call w.birth k ≡ seen_call w.birth m
      inner = cc

  alike-borrow : (g : Setup) (way : Way) (c : ℕ) (t u : Turn) → IsBlind g way c → IsOpen w g c → IsAlike w t u → IsAlikeWhereSeen w (borrowed g way c t) (borrowed g way c u)
  unfolding borrowed
  alike-borrow g way c t u blind open_to h =
      let e = args w a c t u h in
      let x = borrow_args (arguments t.state c) in
      let id = x.lender.number in
      rw e (
      by_test (IsAlikeWhereSeen w) (is_out t.state id) (is_out u.state id) (is_out_same w a id t u h) (surely w a (alike-misused w a g c (usage_number BadTaskIndex) t u h)) (
      by_test (IsAlikeWhereSeen w) (is_dead t.state id) (is_dead u.state id) (is_dead_same w a id t u h) (surely w a (alike-answers w a c _ _ t u (ap (λ n. n ∷ 0 ∷ []) (sym (dead_code_same w a id t u h))) h))
      (alike-borrowed_by g way c x _ _ t u blind open_to (taken_alike w.birth t.state u.state (index_of id) c h.state) h)))

  pub alike-reading : (g : Setup) (c : ℕ) (t u : Turn) → IsOpen w g c → IsAlike w t u → IsAlikeWhereSeen w (borrowed g reading c t) (borrowed g reading c u)
  alike-reading g c t u open_to h = alike-borrow g reading c t u (blind-reading g c) open_to h

  pub alike-writing : (g : Setup) (c : ℕ) (t u : Turn) → IsOpen w g c → IsAlike w t u → IsAlikeWhereSeen w (borrowed g writing c t) (borrowed g writing c u)
  alike-writing g c t u open_to h = alike-borrow g writing c t u (blind-writing g c) open_to h

  -- BORROW_INFO
  alike-grant_answered : (g : Setup) (c lease : ℕ) (k : Call) (e : LeaseEntry) (t u : Turn) → IsAlike w t u → IsAlikeWhereSeen w (grant_answered g c lease k e t) (grant_answered g c lease k e u)
  alike-grant_answered g c lease k e t u h =
      by_same (IsAlikeWhereSeen w) (not (is_valid (lease_range e))) (surely w a (alike-uninformed c no_lease _ _ (alike-misused w a g k.client.index (usage_number InvalidSlice) t u h)))
      (alike-borrowed c (0 ∷ bit_and e.attributes 3 ∷ e.len ∷ []) k.number borrow.Info lease 0 0 t u (surely w a h))

  alike-informed_by : (g : Setup) (c lease : ℕ) (o p : Option Call) (t u : Turn) → option_map (seen_call w.birth) o ≡ option_map (seen_call w.birth) p → IsAlike w t u → IsAlikeWhereSeen w (informed_by g c lease o t) (informed_by g c lease p u)
  unfolding grant
  alike-informed_by g c lease None None t u e h = surely w a (alike-uninformed c no_lease t u h)
  alike-informed_by g c lease None (Some m) t u e h = absurd cc
  alike-informed_by g c lease (Some k) None t u e h = absurd cc
  alike-informed_by g c lease (Some k) (Some m) t u e h =
      let bad = bad_byte g k.client.index ToRead (entry_range k lease) in
      by_seen w a (IsAlikeWhereSeen w) (λ y. informed_by g c lease (Some y) u) (λ y. refl) k m inner _
      (by_same (IsAlikeWhereSeen w) (leb k.leases lease) (surely w a (alike-misused w a g c (usage_number LeaseOutOfRange) t u h)) (
      by_same (IsAlikeWhereSeen w) (is_some bad) (surely w a (alike-uninformed c no_lease _ _ (alike-denied w a g k.client.index (access_number KernelRead) bad t u h)))
      (alike-entry k lease (λ y z. grant_answered g c lease k y z) (λ r y z q. keeps-grant_answered r g c lease k y z q) (λ y p q r. alike-grant_answered g c lease k y p q r) t u h)))
    where
      inner : seen_call w.birth k ≡ seen_call w.birth m
      inner = cc

  pub alike-informed : (g : Setup) (c : ℕ) (t u : Turn) → IsAlike w t u → IsAlikeWhereSeen w (informed g c t) (informed g c u)
  unfolding informed
  alike-informed g c t u h =
      let e = args w a c t u h in
      let x = info_args (arguments t.state c) in
      let id = x.lender.number in
      rw e (
      by_test (IsAlikeWhereSeen w) (is_out t.state id) (is_out u.state id) (is_out_same w a id t u h) (surely w a (alike-misused w a g c (usage_number BadTaskIndex) t u h)) (
      by_test (IsAlikeWhereSeen w) (is_dead t.state id) (is_dead u.state id) (is_dead_same w a id t u h) (surely w a (alike-answers w a c _ _ t u (ap (λ n. n ∷ 0 ∷ 0 ∷ []) (sym (dead_code_same w a id t u h))) h))
      (alike-informed_by g c x.lease _ _ t u (taken_alike w.birth t.state u.state (index_of id) c h.state) h)))

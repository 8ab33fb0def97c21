-- Each row of BORROW_READ, BORROW_WRITE and BORROW_INFO.
use Rattle.std.proofs.Common.{◌≡◌, ◌≢◌, ◌+◌, ◌*◌, ◌<◌, ◌≤◌, inl, inr, ℕ, not, [], ◌∷◌, length, Option, Some, None, refl, sym, subst, ap, ◌∙◌, arith, eqb, leb, ltb, bit_and, is_some}
use Rattle.std.proofs.lemmas.Bool.{eq-eqb, leb-false, ltb-false, false≢true}
use Rattle.std.specs.Prelude.{Contains}
use Rattle.std.proofs.lemmas.List.Elements.{Contains-push}
use Rattle.kernel_abi.specs.Arguments.{borrow_args, info_args}
use Rattle.kernel_abi.specs.Faults.{access_number}
use Rattle.kernel_abi.specs.Ids.{index_of}
use Rattle.kernel_abi.specs.declared.Borrow.{Borrow}
use Rattle.kernel_abi.specs.declared.Borrow.TheVariants as borrow
use Rattle.kernel_abi.specs.declared.Ending.TheVariants.{Client}
use Rattle.kernel_abi.specs.declared.Fault.{Fault}
use Rattle.kernel_abi.specs.declared.LeaseEntry.{LeaseEntry}
use Rattle.kernel_abi.specs.declared.arguments.BorrowArgs.{BorrowArgs}
use Rattle.region_check.specs.declared.Right.TheVariants as right
use Rattle.task_table.specs.model.State.{Setup, State, Call, Taken, Own, Lease, Read, Entry, Leased, Turn}
use Rattle.task_table.specs.model.Reading.{arguments, is_out, is_dead, dead_code_for, taken_by, is_valid, bad_byte}
use Rattle.task_table.specs.model.Effects.{looked, copied, faulted}
use Rattle.task_table.specs.model.Rows.{misused, denied}
use Rattle.task_table.specs.model.Borrows.{entry_range, grant, lease_range, entry_read, Way, reading, writing, moved, refused, buffer_of, part_of, borrowed_by, borrowed, uninformed, informed_by, informed}
use Rattle.task_table.specs.model.Sane.{Sane}
use Rattle.task_table.specs.model.Grounds.{IsTakenBy, IsLent, IsAlive}
use Rattle.task_table.specs.model.Chain.{Here}
use Rattle.task_table.specs.model.Step.{IsOpenAs, IsMoved, Copies, Looks, Borrows, Strikes, IsEntry, ReadsEntries}
use Rattle.task_table.proofs.model.Chains.{one, ◌▷◌}
use Rattle.task_table.proofs.model.Keeps.{added_in}
use Rattle.task_table.proofs.model.MessageChains.{found_taken, another}
use Rattle.task_table.proofs.model.Outcomes.{Leads, Comes, by_outcome, comes-faulted_after, comes-misused, goes_with}
use Rattle.task_table.proofs.model.Ranges.{may-read, may-write}
use Rattle.task_table.proofs.model.Receives.{none_left}

-- a read changes nothing, notes nothing and writes nothing
state-looked : (r : Read) (t : Turn) → (looked r t).state ≡ t.state
unfolding looked
state-looked r t = refl

notes-looked : (r : Read) (t : Turn) → (looked r t).notes ≡ t.notes
unfolding looked
notes-looked r t = refl

writes-looked : (r : Read) (t : Turn) → (looked r t).writes ≡ t.writes
unfolding looked
writes-looked r t = refl

calls-moved : (way : Borrow) (k : Call) (leased own n : ℕ) (t : Turn) → (moved way k leased own n t).state.calls ≡ t.state.calls
unfolding looked copied
calls-moved borrow.Read k leased own n t = refl
calls-moved borrow.Write k leased own n t = refl
calls-moved borrow.Info k leased own n t = refl

reads-looked : (r : Read) (t : Turn) → IsEntry r.part → ReadsEntries t (looked r t)
unfolding looked
reads-looked r t entry x here = elim (added_in t.reads r x here) [ inl old ↦ inl old | inr new ↦ inr (rw new entry) ]

module _ (g : Setup) (c : ℕ) (t : Turn) (h : Sane g t.state) (inside : c < length g.tasks) where
  -- ## what the borrower gets

  refuses : (code : ℕ) (u : Turn) → Leads g c t u → Comes g c t (refused c code u)
  refuses code u x = goes_with g c t inside (code ∷ 0 ∷ []) u (omega arith) x

  uninforms : (code : ℕ) (u : Turn) → Leads g c t u → Comes g c t (uninformed c code u)
  uninforms code u x = goes_with g c t inside (code ∷ 0 ∷ 0 ∷ []) u (omega arith) x

  -- ## with a call that c has taken

  module _ (k : Call) (taken : IsTakenBy t.state c k.number k) where
    alive : (u : Turn) → IsAlive t.state c u k.number
    alive u = inl (k, taken.here, refl)

    -- the call is still open and taken, if the calls did not change
    still : (u : Turn) → u.state.calls ≡ t.state.calls → IsOpenAs u.state k.number Taken
    still u same = (k, subst (λ calls. Contains calls k) (sym same) taken.here, refl, taken.phase)

    -- the lender faults
    strikes : (fault : Fault) (u : Turn) → 1 ≤ fault.number → fault.number ≤ 10 → Leads g c t u → Leads g c t (faulted g k.client.index fault u)
    strikes fault u low high x = x ▷ (Strikes k.client.index fault Client u (another h c k taken) (h.steady.calls.fit k taken.here).client low high (inl (inr (k, taken.here, refl))) tt, tt)

    denies_lender : (y : ℕ) (bad : Option ℕ) (u : Turn) → Leads g c t u → Leads g c t (denied g k.client.index y bad u)
    denies_lender y bad u x = strikes _ u (omega arith) (omega arith) x

    misuses_lender : (usage : ℕ) (u : Turn) → Leads g c t u → Leads g c t (misused g k.client.index usage u)
    misuses_lender usage u x = strikes record { number = 7; x = usage; y = 0 } u (omega arith) (omega arith) x

    abbrev entry : (lease : ℕ) (e : LeaseEntry) → Read
    entry lease e = record { call = k.number; part = Entry e.attributes e.base e.len; base = k.table + 12 * lease; len = 12 }

    still_after : (lease : ℕ) (e : LeaseEntry) → (entry_read k lease e t).state.calls ≡ t.state.calls
    still_after lease e = ap (λ (s : State). s.calls) (state-looked (entry lease e) t)

    -- the entry of a lease of the call, as memory has it, if the lender may read it
    record IsThere (lease : ℕ) (e : LeaseEntry) : Type 0 where
      there : lease < k.leases
      is : grant t.state k lease ≡ e
      readable : bad_byte g k.client.index right.Read (entry_range k lease) ≡ None

    abbrev lent : (lease : ℕ) (e : LeaseEntry) → IsThere lease e → IsLent t.state c k.number e
    lent lease e h = record { call = k; taken = taken; lease = lease; there = h.there; in_memory = h.is }

    -- the entry is read; the borrower may still fault after that
    reads_entry : (lease : ℕ) (e : LeaseEntry) → IsThere lease e → Leads g c t (entry_read k lease e t)
    reads_entry lease e h = one (Looks (entry lease e) t (alive t, record { lent = lent lease e h; base = refl; len = refl; may = λ a low high. may-read g k.client.index (entry_range k lease) a h.readable (low, high) }), tt)

    faults_after : (lease : ℕ) (e : LeaseEntry) → IsThere lease e → (fault : Fault) → 1 ≤ fault.number → fault.number ≤ 10 → Comes g c t (faulted g c fault (entry_read k lease e t))
    faults_after lease e h fault low high =
        comes-faulted_after g c t inside fault (entry_read k lease e t) low high (reads_entry lease e h) (state-looked (entry lease e) t) (notes-looked (entry lease e) t) (writes-looked (entry lease e) t) (reads-looked (entry lease e) t tt)

    misuses_after : (lease : ℕ) (e : LeaseEntry) → IsThere lease e → (usage : ℕ) → Comes g c t (misused g c usage (entry_read k lease e t))
    misuses_after lease e h usage = faults_after lease e h record { number = 7; x = usage; y = 0 } (omega arith) (omega arith)

    denies_after : (lease : ℕ) (e : LeaseEntry) → IsThere lease e → (y : ℕ) (bad : Option ℕ) → Comes g c t (denied g c y bad (entry_read k lease e t))
    denies_after lease e h y bad = faults_after lease e h _ (omega arith) (omega arith)

  -- ## the bytes of a lease move after all checks

  abbrev Moving : Way → BorrowArgs → Type 0
  Moving way x =
      (k : Call) (e : LeaseEntry) (taken : IsTakenBy t.state c k.number k) → IsThere k taken x.lease e → bit_and e.attributes way.bit ≢ 0 → x.offset ≤ e.len → bad_byte g c way.own (buffer_of x) ≡ None → bad_byte g k.client.index way.lender (part_of x e) ≡ None →
      Leads g c t (moved way.borrow k (part_of x e).base x.buffer_base (part_of x e).len (entry_read k x.lease e t))

  read_moves : (x : BorrowArgs) → Moving reading x
  read_moves x k e taken h bit offset own lender =
      let part = part_of x e in
      let t1 = entry_read k x.lease e t in
      let r : Read = record { call = k.number; part = Leased; base = part.base; len = part.len } in
      reads_entry k taken x.lease e h
      ▷ (Looks r t1 (alive k taken t1, record { entry = e; lent = lent k taken x.lease e h; readable = bit; low = omega arith; high = omega arith; may = λ a from below. may-read g k.client.index part a lender (from, below) }), tt)
      ▷ (Copies Own part.base x.buffer_base part.len c (buffer_of x) (looked r t1) record { good = own; base = refl; fits = omega arith } (λ a low high. may-write g c (buffer_of x) a own (low, omega arith)), tt)

  write_moves : (x : BorrowArgs) → Moving writing x
  unfolding looked
  write_moves x k e taken h bit offset own lender =
      let part = part_of x e in
      let t1 = entry_read k x.lease e t in
      reads_entry k taken x.lease e h
      ▷ (
        Copies (Lease k.number) x.buffer_base part.base part.len k.client.index part t1 record { good = lender; base = refl; fits = omega arith } (λ a low high. record {
          call = k;
          taken = taken;
          lease = x.lease;
          there = h.there;
          attributes = e.attributes;
          range = lease_range e;
          read = Contains-push t.reads (entry k taken x.lease e);
          in_memory = h.is;
          writable = bit;
          lies = (omega arith, omega arith);
          may = may-write g k.client.index part a lender (low, high);
        }),
        tt,
      )

  lends : (way : Way) (x : BorrowArgs) → ((offset n : ℕ) → IsMoved way.borrow offset n) → Moving way x → (i : ℕ) (o : Option Call) → taken_by t.state i c ≡ o → Comes g c t (borrowed_by g way c x o t)
  lends way x fits moving i None found = refuses 1 t (Here t)
  lends way x fits moving i (Some k) found =
      let f = found_taken t.state i c k found in
      let bad = bad_byte g k.client.index right.Read (entry_range k x.lease) in
      let e = grant t.state k x.lease in
      let t1 = entry_read k x.lease e t in
      let buffer = buffer_of x in
      let part = part_of x e in
      let lacking = bad_byte g k.client.index way.lender part in
      by_outcome (leb k.leases x.lease) (λ out. comes-misused g c t inside 8) (λ there.
      by_outcome (is_some bad) (λ b. refuses 1 (denied g k.client.index 2 bad t) (denies_lender k f 2 bad t (Here t))) (λ readable.
      let here : IsThere k f x.lease e = record { there = leb-false k.leases x.lease there; is = refl; readable = none_left _ readable } in
      let x1 = reads_entry k f x.lease e here in
      by_outcome (not (is_valid (lease_range e))) (λ b. refuses 1 (misused g k.client.index 3 t1) (misuses_lender k f 3 t1 x1)) (λ valid.
      by_outcome (eqb (bit_and e.attributes way.bit) 0) (λ clear. refuses 1 t1 x1) (λ set.
      by_outcome (ltb e.len x.offset) (λ far. misuses_after k f x.lease e here 7) (λ near.
      by_outcome (not (is_valid buffer)) (λ b. misuses_after k f x.lease e here 3) (λ ok.
      by_outcome (is_some (bad_byte g c way.own buffer)) (λ b. denies_after k f x.lease e here (access_number way.own_access) (bad_byte g c way.own buffer)) (λ own.
      by_outcome (is_some lacking) (λ b. refuses 1 (denied g k.client.index (access_number way.lender_access) lacking t1) (denies_lender k f (access_number way.lender_access) lacking t1 x1)) (λ lender.
      let moving1 = moving k e f here (λ zero. absurd (false≢true (sym set ∙ eq-eqb _ _ zero))) (ltb-false e.len x.offset near) (none_left _ own) (none_left _ lender) in
      goes_with g c t inside (0 ∷ part.len ∷ []) _ (omega arith)
      (moving1 ▷ (Borrows k.number way.borrow x.lease x.offset part.len (moved way.borrow k part.base x.buffer_base part.len t1) (alive k f (moved way.borrow k part.base x.buffer_base part.len t1)) (still k f (moved way.borrow k part.base x.buffer_base part.len t1) (calls-moved way.borrow k part.base x.buffer_base part.len t1 ∙ still_after k f x.lease e)) (fits x.offset part.len), tt))))))))))

  borrows : (way : Way) → ((offset n : ℕ) → IsMoved way.borrow offset n) → ((x : BorrowArgs) → Moving way x) → Comes g c t (borrowed g way c t)
  unfolding borrowed
  borrows way fits moving =
      let s = t.state in
      let x = borrow_args (arguments s c) in
      let id = x.lender.number in
      by_outcome (is_out s id) (λ out. comes-misused g c t inside 2) (λ there.
      by_outcome (is_dead s id) (λ dead. refuses (dead_code_for s id) t (Here t)) (λ live.
      lends way x fits (moving x) (index_of id) (taken_by s (index_of id) c) refl))

  pub comes-read : Comes g c t (borrowed g reading c t)
  comes-read = borrows reading (λ offset n. tt) read_moves

  pub comes-written : Comes g c t (borrowed g writing c t)
  comes-written = borrows writing (λ offset n. tt) write_moves

  -- ## what the borrower gets for a lease

  informs : (lease i : ℕ) (o : Option Call) → taken_by t.state i c ≡ o → Comes g c t (informed_by g c lease o t)
  informs lease i None found = uninforms 1 t (Here t)
  informs lease i (Some k) found =
      let f = found_taken t.state i c k found in
      let bad = bad_byte g k.client.index right.Read (entry_range k lease) in
      let e = grant t.state k lease in
      let t1 = entry_read k lease e t in
      by_outcome (leb k.leases lease) (λ out. comes-misused g c t inside 8) (λ there.
      by_outcome (is_some bad) (λ b. uninforms 1 (denied g k.client.index 2 bad t) (denies_lender k f 2 bad t (Here t))) (λ readable.
      let x1 = reads_entry k f lease e record { there = leb-false k.leases lease there; is = refl; readable = none_left _ readable } in
      by_outcome (not (is_valid (lease_range e))) (λ b. uninforms 1 (misused g k.client.index 3 t1) (misuses_lender k f 3 t1 x1)) (λ valid.
      goes_with g c t inside (0 ∷ bit_and e.attributes 3 ∷ e.len ∷ []) _ (omega arith) (x1 ▷ (Borrows k.number borrow.Info lease 0 0 t1 (alive k f t1) (still k f t1 (still_after k f lease e)) (refl, refl), tt)))))

  pub comes-informed : Comes g c t (informed g c t)
  unfolding informed
  comes-informed =
      let s = t.state in
      let x = info_args (arguments s c) in
      let id = x.lender.number in
      by_outcome (is_out s id) (λ out. comes-misused g c t inside 2) (λ there.
      by_outcome (is_dead s id) (λ dead. uninforms (dead_code_for s id) t (Here t)) (λ live.
      informs x.lease (index_of id) (taken_by s (index_of id) c) refl))

-- What happens in a turn leaves alone whoever waits for nothing and does not run, unless the supervisor strikes it.
use Rattle.std.proofs.Common.{◌≡◌, ◌≢◌, ◌⊎◌, inl, inr, ℕ, zero, suc, Bool, true, false, cond, List, [], ◌∷◌, ◌++◌, length, Option, Some, None, refl, sym, ◌∙◌, ap, arith, eqb, bit_and, bit_or, get_or, set, min}
use Rattle.std.specs.Prelude.{Contains, fold}
use Rattle.std.specs.List.{range_with_len}
use Rattle.std.proofs.lemmas.Bool.Decides.{eqb_tells}
use Rattle.std.proofs.lemmas.List.Elements.{Contains-append_left, Contains-push}
use Rattle.kernel_abi.specs.Devices.{DeviceData}
use Rattle.kernel_abi.specs.Ids.{id_of, dead_code_of}
use Rattle.kernel_abi.specs.Faults.{injected_fault}
use Rattle.kernel_abi.specs.declared.Ending.{Ending}
use Rattle.kernel_abi.specs.declared.Ending.TheVariants as ending
use Rattle.kernel_abi.specs.declared.Fault.{Fault}
use Rattle.kernel_abi.specs.declared.Health.TheVariants.{Faulted}
use Rattle.kernel_abi.specs.declared.Note.{Note}
use Rattle.kernel_abi.specs.declared.Note.TheVariants as note
use Rattle.kernel_abi.specs.declared.Timer.{Timer}
use Rattle.task_table.specs.declared.Line.{Line}
use Rattle.task_table.specs.declared.slot.Slice.{Slice}
use Rattle.task_table.specs.model.State.{Setup, State, Task, Call, Listen, Ground, Own, Message, Turn}
use Rattle.task_table.specs.model.Reading.{task_at, no_task, call_of, listen_of, admits, IsIdle}
use Rattle.task_table.specs.model.Effects.{with_task, without_call, without_listen, with_listen, with_taken, taken_from, with_call, changed, noted, with_processor, with_health, stored, copied, looked, given, returned, past_syscall, bits_added, bits_cleared, woken_by, woken, posted, with_timer, with_line, closed, faulted_as, offered, handed, reborn, is_to, awaits, dead_answered, restarted, with_devices}
use Rattle.task_table.specs.model.Sends.{taken_at_once, offers_call}
use Rattle.task_table.specs.model.Chain.{Chain}
use Rattle.task_table.specs.model.Counts.{AreNoted}
use Rattle.task_table.specs.model.Step.{IsParty, Step, Notes, Gives, Returns, PassesSyscall, Runs, Clears, Posts, Times, Lines, Listens, Sends, Receives, Stores, Copies, Looks, Borrows, Ceases, Halts, Strikes, Restarts, Reaches}
use Rattle.task_table.proofs.model.Chains.{chain_keeps}
use Rattle.task_table.proofs.model.Changes.{task_at-with_task_other, call_of-with_task, listen_of-with_task}
use Rattle.task_table.proofs.model.Clients.{option_cases, found_call, client_is}
use Rattle.task_table.proofs.model.Keeps.{added_in, map_in, idle_call, idle_listen, dropped_call, dropped_listen}
use Rattle.task_table.proofs.model.Moves.{aside-posted}
use Rattle.task_table.proofs.model.Noting.{step_noted}
use Rattle.task_table.proofs.model.Posting.{found_listen}
use Rattle.board_model.specs.Loners.{IsUntouched, IsStruck}
use Rattle.task_table.proofs.model.Waiting.{no_some}

-- unless it was struck it is as before
abbrev pub IsLeftAlone : State → ℕ → Turn → Type 0
IsLeftAlone s j u = IsStruck j u.notes ⊎ IsUntouched s j u.state

-- ## who has no call and no listen

no_call : (z : State) (j : ℕ) → ((d : Call) → Contains z.calls d → d.client.index ≢ j) → call_of z j ≡ None
no_call z j none = elim (option_cases (call_of z j)) [ inl e ↦ e | inr some ↦ absurd (none some.0 (found_call z j some.0 some.1) (client_is z j some.0 some.1)) ]

no_listen : (z : State) (j : ℕ) → ((l : Listen) → Contains z.listens l → l.task ≢ j) → listen_of z j ≡ None
no_listen z j none = elim (option_cases (listen_of z j)) [ inl e ↦ e | inr some ↦ let r = found_listen z j some.0 some.1 in absurd (none some.0 r.0 r.1) ]

-- what has no more calls of j, nor listens
idle_fewer : (z y : State) (j : ℕ) → ((d : Call) → Contains y.calls d → d.client.index ≡ j → (e : Call) × Contains z.calls e × (e.client.index ≡ j)) → ((l : Listen) → Contains y.listens l → l.task ≡ j → Contains z.listens l) → IsIdle z j → IsIdle y j
idle_fewer z y j calls listens idle = record {
  call = no_call y j (λ d here same. let e = calls d here same in idle_call z j e.0 idle.call e.1 e.2);
  listen = no_listen y j (λ l here same. idle_listen z j l idle.listen (listens l here same) same);
}

-- ## what a change of waits leaves of tasks

tasks-unlistened : (i j : ℕ) (z : State) → task_at (without_listen i z) j ≡ task_at z j
unfolding without_listen task_at
tasks-unlistened i j z = refl

calls-unlistened : (i : ℕ) (z : State) → (without_listen i z).calls ≡ z.calls
unfolding without_listen
calls-unlistened i z = refl

tasks-uncalled : (i j : ℕ) (z : State) → task_at (without_call i z) j ≡ task_at z j
unfolding without_call task_at
tasks-uncalled i j z = refl

listens-uncalled : (i : ℕ) (z : State) → (without_call i z).listens ≡ z.listens
unfolding without_call
listens-uncalled i z = refl

get_or_either : {X : Type 0} (xs : List X) (k j : ℕ) (x d : X) → j ≡ k → (get_or (set xs k x) j d ≡ x) ⊎ (get_or (set xs k x) j d ≡ get_or xs j d)
get_or_either [] k j x d e = inr refl
get_or_either (y ∷ ys) zero zero x d e = inl refl
get_or_either (y ∷ ys) zero (suc j) x d e = inr refl
get_or_either (y ∷ ys) (suc k) zero x d e = inr refl
get_or_either (y ∷ ys) (suc k) (suc j) x d e = get_or_either ys k j x d (omega arith)

own_task : (z : State) (j : ℕ) (x : Task) → (task_at (with_task j x z) j ≡ x) ⊎ (task_at (with_task j x z) j ≡ task_at z j)
unfolding with_task task_at
own_task z j x = get_or_either z.tasks j j x no_task refl

middle : (xs ys : List Note) (n : Note) → Contains ((xs ++ n ∷ []) ++ ys) n
middle xs ys n = Contains-append_left (xs ++ n ∷ []) ys n (Contains-push xs n)

fault_noted : (j : ℕ) (ending : Ending) (u : Turn) → Contains (closed j ending (noted (note.Fault j injected_fault) (changed (without_listen j) (with_health j (Faulted injected_fault) u)))).notes (note.Fault j injected_fault)
unfolding closed noted with_health
fault_noted j ending u = middle u.notes _ (note.Fault j injected_fault)

-- what was noted stays noted
pub still_there : (n : ℕ) (u v : Turn) (m : Note) → AreNoted n u v → Contains u.notes m → Contains v.notes m
still_there n u v m a here = rw a.notes (Contains-append_left u.notes a.new m here)

struck_more : (j n : ℕ) (u v : Turn) → AreNoted n u v → IsStruck j u.notes → IsStruck j v.notes
struck_more j n u v a (inl r) = inl (r.0, still_there n u v (note.Restart j r.0) a r.1)
struck_more j n u v a (inr r) = inr (still_there n u v (note.Fault j injected_fault) a r)

module _ (s : State) (j : ℕ) where
  abbrev pub Same : State → Type 0
  Same z = IsUntouched s j z

  -- the task stays
  same_tasks : (z y : State) → task_at y j ≡ task_at z j → IsIdle y j → Same z → Same y
  same_tasks z y e idle h = record { births = rw e h.births; registers = rw e h.registers; flags = rw e h.flags; health = rw e h.health; idle = idle }

  pub same-task : (i : ℕ) (x : Task) (z : State) → j ≢ i → Same z → Same (with_task i x z)
  same-task i x z ne h = same_tasks z (with_task i x z) (task_at-with_task_other z i j x ne) record { call = call_of-with_task z i j x ∙ h.idle.call; listen = listen_of-with_task z i j x ∙ h.idle.listen } h

  -- its own bits or its timer change
  same-own_task : (x : Task) (z : State) → x.births ≡ (task_at z j).births → x.registers ≡ (task_at z j).registers → x.flags ≡ (task_at z j).flags → x.health ≡ (task_at z j).health → Same z → Same (with_task j x z)
  same-own_task x z births registers flags health h =
      let idle : IsIdle (with_task j x z) j = record { call = call_of-with_task z j j x ∙ h.idle.call; listen = listen_of-with_task z j j x ∙ h.idle.listen } in
      elim (own_task z j x) [
        | inl e ↦ record {
          births = ap (λ (y : Task). y.births) e ∙ births ∙ h.births;
          registers = ap (λ (y : Task). y.registers) e ∙ registers ∙ h.registers;
          flags = ap (λ (y : Task). y.flags) e ∙ flags ∙ h.flags;
          health = ap (λ (y : Task). y.health) e ∙ health ∙ h.health;
          idle = idle;
        }
        | inr e ↦ same_tasks z (with_task j x z) e idle h
      ]

  same-unlistened : (i : ℕ) (z : State) → Same z → Same (without_listen i z)
  same-unlistened i z h = same_tasks z (without_listen i z) (tasks-unlistened i j z) (idle_fewer z (without_listen i z) j (λ d here e. (d, rw calls-unlistened at here, e)) (λ l here e. (dropped_listen z i l here).0) h.idle) h

  same-uncalled : (i : ℕ) (z : State) → Same z → Same (without_call i z)
  same-uncalled i z h = same_tasks z (without_call i z) (tasks-uncalled i j z) (idle_fewer z (without_call i z) j (λ d here e. (d, (dropped_call z i d here).0, e)) (λ l here e. rw listens-uncalled at here) h.idle) h

  same-taken : (i : ℕ) (z : State) → Same z → Same (with_taken i z)
  unfolding with_taken task_at
  same-taken i z h = same_tasks z (with_taken i z) refl (idle_fewer z (with_taken i z) j (λ d here e. let r = map_in (taken_from i) z.calls d here in (r.0, r.1, ap (λ (x : Call). x.client.index) (sym r.2) ∙ e)) (λ l here e. here) h.idle) h

  same-called : (k : Call) (z : State) → k.client.index ≢ j → Same z → Same (with_call k z)
  unfolding with_call task_at
  same-called k z ne h = same_tasks z (with_call k z) refl (idle_fewer z (with_call k z) j (λ d here e. elim (added_in z.calls k d here) [ inl old ↦ (d, old, e) | inr new ↦ absurd (ne (ap (λ (x : Call). x.client.index) (sym new) ∙ e)) ]) (λ l here e. here) h.idle) h

  same-listening : (m : Listen) (z : State) → m.task ≢ j → Same z → Same (with_listen m z)
  unfolding with_listen task_at
  same-listening m z ne h = same_tasks z (with_listen m z) refl (idle_fewer z (with_listen m z) j (λ d here e. (d, here, e)) (λ l here e. elim (added_in z.listens m l here) [ inl old ↦ old | inr new ↦ absurd (ne (ap (λ (x : Listen). x.task) (sym new) ∙ e)) ]) h.idle) h

  -- memory, lines, and who is current
  same-stored : (on : Ground) (at : ℕ) (bytes : List ℕ) (u : Turn) → Same u.state → Same (stored on at bytes u).state
  unfolding stored task_at call_of listen_of
  same-stored on at bytes u h = same_tasks u.state (stored on at bytes u).state refl record { call = h.idle.call; listen = h.idle.listen } h

  same-copied : (on : Ground) (from at n : ℕ) (u : Turn) → Same u.state → Same (copied on from at n u).state
  unfolding copied task_at call_of listen_of
  same-copied on from at n u h = same_tasks u.state (copied on from at n u).state refl record { call = h.idle.call; listen = h.idle.listen } h

  pub same-line : (k : ℕ) (line : Line) (u : Turn) → Same u.state → Same (with_line k line u).state
  unfolding with_line task_at call_of listen_of
  same-line k line u h = same_tasks u.state (with_line k line u).state refl record { call = h.idle.call; listen = h.idle.listen } h

  pub same-current : (i : ℕ) (z : State) → Same z → Same record z { current = i }
  unfolding task_at call_of listen_of
  same-current i z h = same_tasks z record z { current = i } refl record { call = h.idle.call; listen = h.idle.listen } h

  pub same-now : (n : ℕ) (z : State) → Same z → Same record z { now = n }
  unfolding task_at call_of listen_of
  same-now n z h = same_tasks z record z { now = n } refl record { call = h.idle.call; listen = h.idle.listen } h

  pub same-turn : (n : ℕ) (z : State) → Same z → Same record z { turn = n }
  unfolding task_at call_of listen_of
  same-turn n z h = same_tasks z record z { turn = n } refl record { call = h.idle.call; listen = h.idle.listen } h

  pub same-devices : (devices : List DeviceData) (z : State) → Same z → Same record z { devices = devices }
  unfolding task_at call_of listen_of
  same-devices devices z h = same_tasks z record z { devices = devices } refl record { call = h.idle.call; listen = h.idle.listen } h

  pub same-timer : (i : ℕ) (timer : Option Timer) (u : Turn) → Same u.state → Same (with_timer i timer u).state
  unfolding with_timer
  same-timer i timer u h = elim (eqb_tells j i) [
    | inl same ↦ rw (← same.1) (same-own_task record (task_at u.state j) { timer = timer } u.state refl refl refl refl h)
    | inr other ↦ same-task i _ u.state other.1 h
  ]

  -- effects on another task
  pub same-given : (i : ℕ) (values : List ℕ) (u : Turn) → j ≢ i → Same u.state → Same (given i values u).state
  unfolding given
  same-given i values u ne h = same-task i _ u.state ne h

  pub same-returned : (i : ℕ) (u : Turn) → Same u.state → Same (returned i u).state
  unfolding returned noted
  same-returned i u h = h

  pub same-noted : (n : Note) (u : Turn) → Same u.state → Same (noted n u).state
  unfolding noted
  same-noted n u h = h

  same-closed : (i : ℕ) (ending : Ending) (u : Turn) → Same u.state → Same (closed i ending u).state
  unfolding closed
  same-closed i ending u h = same-uncalled i u.state h

  same-woken : (i : ℕ) (o : Option Listen) (u : Turn) → j ≢ i → Same u.state → Same (woken_by i o u).state
  unfolding bits_cleared
  same-woken i None u ne h = h
  same-woken i (Some l) u ne h = go (eqb (bit_and (task_at u.state i).posted l.mask) 0)
    where
      v : Turn
      v = bits_cleared i l.mask (changed (without_listen i) u)

      values : List ℕ
      values = 0 ∷ 0xFFFF ∷ bit_and (task_at u.state i).posted l.mask ∷ 0 ∷ 0 ∷ 0 ∷ []

      go : (b : Bool) → IsUntouched s j (cond b u (returned i (given i values v))).state
      go true = h
      go false = same-returned i (given i values v) (same-given i values v ne (same-task i _ (without_listen i u.state) ne (same-unlistened i u.state h)))

  same-unwoken : (o : Option Listen) (u : Turn) → listen_of u.state j ≡ o → Same u.state → Same (woken_by j o u).state
  same-unwoken None u e h = h
  same-unwoken (Some l) u e h = no_some (sym e ∙ h.idle.listen)

  -- a post adds bits to a task that does not listen, and leaves the rest
  same-own : (bits : ℕ) (u : Turn) → Same u.state → Same (posted j bits u).state
  unfolding posted woken bits_added noted
  same-own bits u h = same-unwoken (listen_of (bits_added j bits u).state j) (bits_added j bits u) refl (same-own_task record (task_at u.state j) { posted = bit_or (task_at u.state j).posted bits } u.state refl refl refl refl h)

  same-other : (i bits : ℕ) (u : Turn) → j ≢ i → Same u.state → Same (posted i bits u).state
  unfolding posted woken bits_added noted
  same-other i bits u ne h = same-woken i (listen_of (bits_added i bits u).state i) (bits_added i bits u) ne (same-task i _ u.state ne h)

  pub same-posted : (i bits : ℕ) (u : Turn) → Same u.state → Same (posted i bits u).state
  same-posted i bits u h = elim (eqb_tells j i) [
    | inl same ↦ rw (← same.1) (same-own bits u h)
    | inr other ↦ same-other i bits u other.1 h
  ]

  same-handed : (on : Ground) (k : Call) (buffer : Slice) (u : Turn) → j ≢ k.server.index → Same u.state → Same (handed on k buffer u).state
  unfolding handed noted looked
  same-handed on k buffer u ne h =
      let n = min k.message.len buffer.len in
      same-given k.server.index (0 ∷ id_of k.client.index k.client.birth ∷ k.operation ∷ k.message.len ∷ k.reply.len ∷ k.leases ∷ []) _ ne
      (same-unlistened k.server.index _ (same-taken k.client.index _ (same-copied on k.message.base buffer.base n _ h)))

  same-offers : (k : Call) (u : Turn) → k.client.index ≢ j → Same u.state → Same (offers_call k u).state
  unfolding offered noted
  same-offers k u ne h = by_listen (listen_of u.state k.server.index) refl
    where
      opened : IsUntouched s j (with_call k u.state)
      opened = same-called k u.state ne h

      by_listen : (o : Option Listen) → listen_of u.state k.server.index ≡ o → IsUntouched s j (taken_at_once k o (offered k u)).state
      by_listen None e = opened
      by_listen (Some l) e = by_test (admits l.from k.client)
        where
          -- who listens is another
          other : j ≢ k.server.index
          other = λ same. no_some (sym e ∙ ap (listen_of u.state) (sym same) ∙ h.idle.listen)

          by_test : (b : Bool) → IsUntouched s j (cond b (returned k.server.index (handed (Message k.number) k l.buffer (offered k u))) (offered k u)).state
          by_test true = same-returned k.server.index _ (same-handed (Message k.number) k l.buffer (offered k u) other opened)
          by_test false = opened

  same-faulted : (g : Setup) (i : ℕ) (fault : Fault) (ending : Ending) (u : Turn) → j ≢ i → Same u.state → Same (faulted_as g i fault ending u).state
  unfolding faulted_as with_health noted
  same-faulted g i fault ending u ne h = by_zero (eqb i 0)
    where
      d : Turn
      d = noted (note.Fault i fault) (changed (without_listen i) (with_health i (Faulted fault) u))

      shut : IsUntouched s j (closed i ending d).state
      shut = same-closed i ending d (same-unlistened i _ (same-task i _ u.state ne h))

      by_zero : (b : Bool) → IsUntouched s j (cond b (closed i ending d) (posted 0 g.fault_bits (closed i ending d))).state
      by_zero true = shut
      by_zero false = same-posted 0 g.fault_bits (closed i ending d) shut

  same-answered : (i k : ℕ) (u : Turn) → Same u.state → Same (dead_answered i u k).state
  same-answered i k u h = elim (eqb_tells j k) [
    | inl same ↦ rw (← same.1, h.idle.call, h.idle.listen) h
    | inr other ↦ by_tests other.1 (is_to i (call_of u.state k)) (awaits i (listen_of u.state k)) (dead_code_of _)
  ]
    where
      by_tests : j ≢ k → (a b : Bool) (code : ℕ) → IsUntouched s j (cond a (returned k (given k (code ∷ 0 ∷ []) (closed k ending.Restart u))) (cond b (returned k (given k (code ∷ 0 ∷ 0 ∷ 0 ∷ 0 ∷ 0 ∷ []) (changed (without_listen k) u))) u)).state
      by_tests ne true b code = same-returned k _ (same-given k (code ∷ 0 ∷ []) (closed k ending.Restart u) ne (same-closed k ending.Restart u h))
      by_tests ne false true code = same-returned k _ (same-given k (code ∷ 0 ∷ 0 ∷ 0 ∷ 0 ∷ 0 ∷ []) (changed (without_listen k) u) ne (same-unlistened k u.state h))
      by_tests ne false false code = h

  pub same-fold : (i : ℕ) (ks : List ℕ) (u : Turn) → Same u.state → Same (fold (dead_answered i) u ks).state
  same-fold i [] u h = h
  same-fold i (k ∷ ks) u h = same-fold i ks (dead_answered i u k) (same-answered i k u h)

  same-restarted : (g : Setup) (i : ℕ) (start : Bool) (u : Turn) → j ≢ i → Same u.state → Same (restarted g i start u).state
  unfolding restarted reborn noted
  same-restarted g i start u ne h = same-fold i (range_with_len 0 (length u.state.tasks)) _ (same-task i _ _ ne (same-unlistened i _ (same-closed i ending.Restart u h)))

  -- ## a step

  struck-faulted : (g : Setup) (ending : Ending) (u : Turn) → IsStruck j (faulted_as g j injected_fault ending u).notes
  unfolding faulted_as
  struck-faulted g ending u = by_zero (eqb j 0)
    where
      d : Turn
      d = closed j ending (noted (note.Fault j injected_fault) (changed (without_listen j) (with_health j (Faulted injected_fault) u)))

      by_zero : (b : Bool) → IsStruck j (cond b d (posted 0 g.fault_bits d)).notes
      by_zero true = inr (fault_noted j ending u)
      by_zero false = let a = (aside-posted 0 g.fault_bits d).outside in inr (rw a.notes (Contains-append_left d.notes a.new _ (fault_noted j ending u)))

  kept-answered : (i k : ℕ) (u : Turn) → IsStruck j u.notes → IsStruck j (dead_answered i u k).notes
  unfolding returned noted given closed
  kept-answered i k u h = by_tests (is_to i (call_of u.state k)) (awaits i (listen_of u.state k)) (dead_code_of _)
    where
      front : (xs ys : List Note) → IsStruck j xs → IsStruck j (xs ++ ys)
      front xs ys (inl r) = inl (r.0, Contains-append_left xs ys _ r.1)
      front xs ys (inr r) = inr (Contains-append_left xs ys _ r)

      by_tests : (a b : Bool) (code : ℕ) → IsStruck j (cond a (returned k (given k (code ∷ 0 ∷ []) (closed k ending.Restart u))) (cond b (returned k (given k (code ∷ 0 ∷ 0 ∷ 0 ∷ 0 ∷ 0 ∷ []) (changed (without_listen k) u))) u)).notes
      by_tests true b code = front _ _ (front u.notes _ h)
      by_tests false true code = front u.notes _ h
      by_tests false false code = h

  kept-fold : (i : ℕ) (ks : List ℕ) (u : Turn) → IsStruck j u.notes → IsStruck j (fold (dead_answered i) u ks).notes
  kept-fold i [] u h = h
  kept-fold i (k ∷ ks) u h = kept-fold i ks (dead_answered i u k) (kept-answered i k u h)

  struck-restarted : (g : Setup) (start : Bool) (u : Turn) → IsStruck j (restarted g j start u).notes
  unfolding restarted noted
  struck-restarted g start u = kept-fold j (range_with_len 0 (length u.state.tasks)) _ (inl (_, Contains-push _ (note.Restart j _)))

  -- no part in what c does
  module _ (g : Setup) (c : ℕ) (z : State) (apart : j ≢ c) (waits : IsIdle z j) where
    no_party : (i : ℕ) → IsParty z c i → j ≢ i
    no_party i (inl own) = λ e. apart (e ∙ own)
    no_party i (inr call) = λ e. idle_call z j call.0 waits.call call.1 (call.2 ∙ sym e)

    step_alone : (u v : Turn) → Step g z c u v → IsUntouched s j u.state → IsLeftAlone s j v
    unfolding noted looked past_syscall bits_cleared with_timer with_processor with_devices
    step_alone _ _ (Notes n u plain) h = inr h
    step_alone _ _ (Gives i values u lt few party) h = inr (same-given i values u (no_party i party) h)
    step_alone _ _ (Returns i u) h = inr (same-returned i u h)
    step_alone _ _ (PassesSyscall u lt) h = inr (same-task c _ u.state apart h)
    step_alone _ _ (Runs registers flags u lt whole) h = inr (same-task c _ u.state apart h)
    step_alone _ _ (Clears mask u lt none) h = inr (same-task c _ u.state apart h)
    step_alone _ _ (Posts i bits u lt) h = inr (same-posted i bits u h)
    step_alone _ _ (Times timer u lt ahead) h = inr (same-task c _ u.state apart h)
    step_alone _ _ (Lines k line u owned) h = inr (same-line k line u h)
    step_alone _ _ (Listens l u own may) h = inr (same-listening l u.state (λ e. apart (sym e ∙ own)) h)
    step_alone _ _ (Sends k u may) h = inr (same-offers k u (λ e. apart (sym e ∙ may.new.client)) h)
    step_alone _ _ (Receives k buffer u may) h = inr (same-handed Own k buffer u (λ e. apart (e ∙ may.server)) h)
    step_alone _ _ (Stores on at bytes u all within room may) h = inr (same-stored on at bytes u h)
    step_alone _ _ (Copies on from at n i r u target may) h = inr (same-copied on from at n u h)
    step_alone _ _ (Reaches devices u reached) h = inr (same-devices devices u.state h)
    step_alone _ _ (Looks r u alive) h = inr h
    step_alone _ _ (Borrows k way lease offset moved u alive taken none) h = inr h
    step_alone _ _ (Ceases i ending u ends) h = inr (same-closed i ending u h)
    step_alone _ _ (Halts fault u lt low high) h = inr (same-faulted g c fault ending.Client u apart h)
    step_alone _ _ (Strikes i fault ending u other lt low high who ends) h = elim (eqb_tells j i) [
      | inl same ↦ elim who [
        | inl party ↦ absurd (no_party i party same.1)
        | inr injected ↦ inl (rw (← same.1, injected) (struck-faulted g ending u))
      ]
      | inr other ↦ inr (same-faulted g i fault ending u other.1 h)
    ]
    step_alone _ _ (Restarts i start u other lt) h = elim (eqb_tells j i) [
      | inl same ↦ inl (rw (← same.1) (struck-restarted g start u))
      | inr other ↦ inr (same-restarted g i start u other.1 h)
    ]

    steps_alone : (u v : Turn) → Step g z c u v → IsLeftAlone s j u → IsLeftAlone s j v
    steps_alone u v x (inl struck) = inl (struck_more j _ u v (step_noted g z c u v x) struck)
    steps_alone u v x (inr same) = step_alone u v x same

    -- over a whole chain
    pub chain_alone : (u v : Turn) → Chain (Step g z c) u v → IsLeftAlone s j u → IsLeftAlone s j v
    chain_alone u v x h = chain_keeps (Step g z c) (IsLeftAlone s j) steps_alone u v x h

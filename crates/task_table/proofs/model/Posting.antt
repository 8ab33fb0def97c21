-- Results, posts and timers keep a state sane.
use Rattle.std.proofs.Common.{◌≡◌, ◌≢◌, ◌+◌, ◌-◌, ◌%◌, ◌^◌, ◌<◌, ◌≤◌, inl, inr, ℕ, List, [], ◌∷◌, ◌++◌, length, Option, Some, None, refl, sym, ◌∙◌, arith, eqb, get_or, take, drop, bit_and, IfSome, get_or-set_same, get_or-set_other, length-set}
use Rattle.std.specs.Prelude.{Contains, slice_index}
use Rattle.std.proofs.lemmas.Bool.{eqb-true}
use Rattle.std.proofs.lemmas.Bool.Decides.{eqb_tells}
use Rattle.std.proofs.lemmas.List.{get_or-append_right, get_or-drop, length-append, length-take, length-drop}
use Rattle.kernel_abi.specs.declared.Note.{Note}
use Rattle.kernel_abi.specs.declared.Timer.{Timer}
use Rattle.task_table.specs.model.State.{Setup, Task, Listen, State, Turn}
use Rattle.task_table.specs.model.Reading.{task_at, register, listen_of}
use Rattle.task_table.specs.model.Effects.{with_task, without_listen, changed, noted, with_results, given, returned, past_syscall, bits_added, bits_cleared, woken_by, woken, posted, with_timer}
use Rattle.task_table.specs.model.Sane.{IsSaneBut, Every, IsSaneTask, AreUnmet}
use Rattle.task_table.proofs.model.Changes.{listen_of-without_listen}
use Rattle.task_table.proofs.model.Keeps.{idle_listen, found_in, keeps-with_task, keeps-without_listen, dropped_listen}

-- a place in one sane state is a place in another
pub still : {M F T M' F' T' : ℕ → Type 0} {W W' : ℕ → ℕ → Type 0} {g : Setup} {s u : State} {i : ℕ} → IsSaneBut M F T W g s → IsSaneBut M' F' T' W' g u → i < length s.tasks → i < length u.tasks
still a b inside = rw (b.steady.as_many, ← a.steady.as_many) inside

-- the property of posted bits, required for more tasks or for fewer
pub with_unmet : {M M' F T : ℕ → Type 0} {W : ℕ → ℕ → Type 0} {g : Setup} {s : State} → IsSaneBut M F T W g s → AreUnmet M' s → IsSaneBut M' F T W g s
with_unmet h u = record { steady = h.steady; well = h.well; present = h.present; unmet = u; unfit = h.unfit; ahead = h.ahead }

-- ## registers

-- results leave SP and PC alone
pub kept_at : (values registers : List ℕ) (r : ℕ) → length registers ≡ 16 → length values ≤ 6 → 10 ≤ r → r < 16 → get_or (with_results values registers) r 0 ≡ get_or registers r 0
kept_at values registers r sixteen six from below =
    let front : length (take 4 registers ++ values) ≡ 4 + length values = simp (length-append, length-take) (omega arith) in
    let far : 4 + length values ≤ r = omega arith in
    let back : 4 + length values + (r - (4 + length values)) ≡ r = omega arith in
    rw (get_or-append_right (take 4 registers ++ values) (drop (4 + length values) registers) (4 + length values) r 0 front far, get_or-drop, back) refl

results_sane : (t : Task) (values : List ℕ) → length values ≤ 6 → IsSaneTask t → IsSaneTask record t { registers = with_results values t.registers }
results_sane t values six h = record {
  sixteen = simp (length-append, length-take, length-drop) (omega (arith, h.sixteen));
  even = rw (kept_at values t.registers 15 h.sixteen six (omega arith) (omega arith)) h.even;
  aligned = rw (kept_at values t.registers 13 h.sixteen six (omega arith) (omega arith)) h.aligned;
  fault = h.fault;
}

module _ {M F T : ℕ → Type 0} {W : ℕ → ℕ → Type 0} {g : Setup} where
  -- registers change as they may
  keeps-registers : {s : State} (i : ℕ) (registers : List ℕ) → IsSaneBut M F T W g s → i < length s.tasks → IsSaneTask record (task_at s i) { registers = registers } → IsSaneBut M F T W g (with_task i record (task_at s i) { registers = registers } s)
  keeps-registers {s} i registers h inside sane = keeps-with_task i h inside record {
    births = refl;
    health = inl refl;
    sane = sane;
    ahead = h.ahead i inside;
    unmet = λ l here m same. rw same at (h.unmet l here m);
  }

  pub keeps-noted : (n : Note) (t : Turn) → IsSaneBut M F T W g t.state → IsSaneBut M F T W g (noted n t).state
  unfolding noted
  keeps-noted n t h = h

  pub keeps-returned : (i : ℕ) (t : Turn) → IsSaneBut M F T W g t.state → IsSaneBut M F T W g (returned i t).state
  unfolding returned noted
  keeps-returned i t h = h

  pub keeps-given : (i : ℕ) (values : List ℕ) (t : Turn) → IsSaneBut M F T W g t.state → i < length t.state.tasks → length values ≤ 6 → IsSaneBut M F T W g (given i values t).state
  unfolding given
  keeps-given i values t h inside six = keeps-registers i _ h inside (results_sane (task_at t.state i) values six (h.steady.tasks i inside))

  pub keeps-past_syscall : (i : ℕ) (t : Turn) → IsSaneBut M F T W g t.state → i < length t.state.tasks → IsSaneBut M F T W g (past_syscall i t).state
  unfolding past_syscall register
  keeps-past_syscall i t h inside =
      let x = h.steady.tasks i inside in
      let pc = slice_index (task_at t.state i).registers 15 in
      let here : 15 < length (task_at t.state i).registers = omega (arith, x.sixteen) in
      keeps-registers i _ h inside record {
        sixteen = length-set (task_at t.state i).registers 15 _ ∙ x.sixteen;
        even = rw (get_or-set_same (task_at t.state i).registers 15 ((pc + 2) % 2 ^ 32) 0 here) (omega (arith, x.even));
        aligned = rw (get_or-set_other (task_at t.state i).registers 15 13 ((pc + 2) % 2 ^ 32) 0 (omega arith)) x.aligned;
        fault = x.fault;
      }

  pub keeps-timer : (i : ℕ) (timer : Option Timer) (t : Turn) → IsSaneBut M F T W g t.state → i < length t.state.tasks → (T i → IfSome timer (λ y. t.state.now < y.deadline)) → IsSaneBut M F T W g (with_timer i timer t).state
  unfolding with_timer
  keeps-timer i timer t h inside ahead =
      let x = h.steady.tasks i inside in
      keeps-with_task i h inside record {
        births = refl;
        health = inl refl;
        sane = record { sixteen = x.sixteen; even = x.even; aligned = x.aligned; fault = x.fault };
        ahead = ahead;
        unmet = λ l here m same. rw same at (h.unmet l here m);
      }

  pub keeps-cleared : (i mask : ℕ) (t : Turn) → IsSaneBut M F T W g t.state → i < length t.state.tasks → listen_of t.state i ≡ None → IsSaneBut M F T W g (bits_cleared i mask t).state
  unfolding bits_cleared
  keeps-cleared i mask t h inside none =
      let x = h.steady.tasks i inside in
      keeps-with_task i h inside record {
        births = refl;
        health = inl refl;
        sane = record { sixteen = x.sixteen; even = x.even; aligned = x.aligned; fault = x.fault };
        ahead = h.ahead i inside;
        unmet = λ l here m same. absurd (idle_listen t.state i l none here same);
      }

-- ## bits are posted

but : ℕ → ℕ → Type 0
but i j = j ≢ i

-- the one listen of a task
pub found_listen : (s : State) (i : ℕ) (l : Listen) → listen_of s i ≡ Some l → Contains s.listens l × (l.task ≡ i)
unfolding listen_of
found_listen s i l h = let r = found_in (λ (m : Listen). eqb m.task i) s.listens l h in (r.0, eqb-true _ _ r.1)

module _ {F T : ℕ → Type 0} {W : ℕ → ℕ → Type 0} {g : Setup} where
  -- after bits are added, nothing is required of the mask of that task
  keeps-added : (i bits : ℕ) (t : Turn) → IsSaneBut Every F T W g t.state → i < length t.state.tasks → IsSaneBut (but i) F T W g (bits_added i bits t).state
  unfolding bits_added noted but
  keeps-added i bits t h inside =
      let x = h.steady.tasks i inside in
      let h1 : IsSaneBut (but i) F T W g t.state = with_unmet h (λ l here m. h.unmet l here tt) in
      keeps-with_task i h1 inside record {
        births = refl;
        health = inl refl;
        sane = record { sixteen = x.sixteen; even = x.even; aligned = x.aligned; fault = x.fault };
        ahead = h.ahead i inside;
        unmet = λ l here m same. absurd (m same);
      }

  keeps-taken : (i mask : ℕ) (values : List ℕ) (t : Turn) → IsSaneBut (but i) F T W g t.state → i < length t.state.tasks → length values ≤ 6 → IsSaneBut Every F T W g (returned i (given i values (bits_cleared i mask (changed (without_listen i) t)))).state
  unfolding but
  keeps-taken i mask values t h inside six =
      let u = changed (without_listen i) t in
      let h1 = keeps-without_listen i h in
      let h2 : IsSaneBut Every F T W g u.state = with_unmet h1 (λ l here m. h1.unmet l here (dropped_listen t.state i l here).1) in
      let in2 : i < length u.state.tasks = still h h2 inside in
      let h3 = keeps-cleared i mask u h2 in2 (listen_of-without_listen t.state i) in
      let v = bits_cleared i mask u in
      keeps-returned i (given i values v) (keeps-given i values v h3 (still h h3 inside) six)

  keeps-woken : (i : ℕ) (lo : Option Listen) (t : Turn) → IsSaneBut (but i) F T W g t.state → i < length t.state.tasks → listen_of t.state i ≡ lo → IsSaneBut Every F T W g (woken_by i lo t).state
  unfolding but
  keeps-woken i None t h inside e = with_unmet h (λ l here m. h.unmet l here (λ same. idle_listen t.state i l e here same))
  keeps-woken i (Some l) t h inside e = elim (eqb_tells (bit_and (task_at t.state i).posted l.mask) 0) [
    | inl none ↦ rw none.0 (with_unmet h (λ m here x. elim (eqb_tells m.task i) [
      | inl same ↦ let r = found_listen t.state i l e in rw (same.1, h.steady.listens.task m l here r.0 (same.1 ∙ sym r.1)) none.1
      | inr other ↦ h.unmet m here other.1
    ]))
    | inr some ↦ rw some.0 (keeps-taken i l.mask (0 ∷ 0xFFFF ∷ bit_and (task_at t.state i).posted l.mask ∷ 0 ∷ 0 ∷ 0 ∷ []) t h inside (omega arith))
  ]

  pub sane-posted : (i bits : ℕ) (t : Turn) → IsSaneBut Every F T W g t.state → i < length t.state.tasks → IsSaneBut Every F T W g (posted i bits t).state
  unfolding posted woken
  sane-posted i bits t h inside =
      let h1 = keeps-added i bits t h inside in
      keeps-woken i (listen_of (bits_added i bits t).state i) (bits_added i bits t) h1 (still h h1 inside) refl

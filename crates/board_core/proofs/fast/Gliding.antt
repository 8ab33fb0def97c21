-- Turns on end of the task that runs.
use Rattle.std.proofs.Common.{◌≡◌, ◌≢◌, ◌⊎◌, inl, inr, ◌+◌, ◌-◌, ◌≤◌, ◌<◌, ℕ, zero, suc, Bool, true, false, List, [], Some, None, refl, sym, ◌∙◌, ap, subst, arith, eqb, leb, ltb}
use Rattle.std.proofs.lemmas.Bool.{eqb-true, eqb-false, leb-true, leb-false, ltb-true, ltb-false}
use Rattle.run_script.specs.Scripts.{IsNext, events_of}
use Rattle.kernel_abi.specs.declared.Note.{Note}
use Rattle.task_table.specs.model.State.{Setup, State, Turn}
use Rattle.task_table.specs.kept.Holds.{current_of, notes_of as kernel_notes}
use Rattle.task_table.specs.model.Start.{begun}
use Rattle.board_core.specs.declared.board.Board.{Board}
use Rattle.board_core.specs.declared.machine.Machine.{Machine}
use Rattle.board_model.specs.declared.outcomes.Level.{Level}
use Rattle.board_model.specs.declared.outcomes.Level.TheVariants.{Calls}
use Rattle.board_model.specs.Script.{Scenario}
use Rattle.board_core.specs.Kept.{IsChoice}
use Rattle.board_core.specs.Machine.{MachineHolds, MachineStands, IsReady}
use Rattle.board_core.specs.Midway.{IsMidway}
use Rattle.board_core.specs.Stands.{Stands, notes_of, turns_of}
use Rattle.board_model.specs.Turn.{turn}
use Rattle.board_model.specs.Run.{ending, turn_after, state_after}
use Rattle.board_core.specs.fast.Advanced.{IsAdvanced, HasGlidden}
use Rattle.board_core.specs.fast.Stops.{Stops}
use Rattle.board_model.proofs.TurnChains.{begun_sane}
use Rattle.board_model.proofs.Further.{last_turn, turn_further}
use Rattle.board_model.proofs.Counts.{counted_turn, turn_more}
use Rattle.board_core.proofs.Loading.{rest_of}
use Rattle.board_model.proofs.Outside.{nothing_due, due_later, no_event, begun_state}
use Rattle.board_core.proofs.Turning.{HasTurned, rested, stands_after, choice_kept, few_events}
use Rattle.board_core.specs.Data.{Shows}

pub current_seen : {X : Type 0} {H : X → Type 0} (shown : Shows X H) (g : Setup) (m : Machine X H) (t : Turn) → IsReady shown g m t → current_of m.space.kernel ≡ t.state.current
current_seen shown g m t r = let rest = rest_of r.holds.saved t m.glider.runner.processor r.holds.is in r.holds.holds.kernel.current ∙ sym rest.current

-- ## a turn in which nothing is due

rested_begun : {X : Type 0} {H : X → Type 0} (shown : Shows X H) (x : Scenario) (s : State) (b : Board X H) → notes_of b ≡ [] → MachineHolds shown x.setup b.machine (rested b.machine s) → MachineHolds shown x.setup b.machine (begun s)
unfolding begun
rested_begun shown x s b none h =
    let P : List Note → Type 0 = λ ns. MachineHolds shown x.setup b.machine record { state = s; notes = ns; writes = []; reads = [] } in
    subst P none h

-- a board whose last turn noted nothing, and that has no event now, has begun its turn
pub midway_now : {X : Type 0} {H : X → Type 0} (shown : Shows X H) (x : Scenario) (s : State) (b : Board X H) → Stands shown x b s → notes_of b ≡ [] → b.due ≢ Some (turns_of b) → turns_of b < 1000000000 → IsMidway shown x b s
midway_now shown x s b st none ne few =
    let at = st.holds.turns in
    let later : b.due ≢ Some s.turn = λ e. ne (e ∙ ap Some (sym at)) in
    let small : s.turn < 1000000000 = rw at at few in
    let nothing : events_of x.script s.turn ≡ [] = nothing_due x.script s.turn b.due small st.holds.due later in
    let A : Turn → Type 0 = λ t. MachineStands shown x.setup b.machine t in
    let C : State → Type 0 = λ u. IsChoice x.setup u b.choice in
    let same = sym (begun_state s) ∙ ap (λ (t : Turn). t.state) (no_event x s nothing) in
    record {
      machine = subst A (no_event x s nothing) record { holds = rested_begun shown x s b none st.holds.machine; sane = begun_sane x.setup s st.sane };
      choice = subst C same st.holds.choice;
      script = st.holds.script;
      io_regions = st.holds.io_regions;
      due = due_later x.script s.turn b.due st.holds.due later;
    }

-- the board after a turn in which nothing was due and that noted nothing
pub stands_so : {X : Type 0} {H : X → Type 0} (shown : Shows X H) (x : Scenario) (s : State) (b : Board X H) (m : Machine X H) (n : ℕ) → Stands shown x b s → IsMidway shown x b s → HasTurned shown Calls x s m → kernel_notes m.space.kernel ≡ [] → n ≡ turns_of b + 1 →
    Stands shown x record b { machine = m; turns = n } (turn Calls x s).state
stands_so shown x s b m n st mid h none more =
    let after = stands_after shown Calls x s m st.sane h in
    let next = turn_more Calls x s st.sane in
    let N : ℕ → Type 0 = λ from. IsNext x.script from b.due in
    record {
      holds = record {
        machine = after.holds;
        turns = let a = st.holds.turns in omega (arith, next, a, more);
        choice = choice_kept shown Calls x s m b.choice st.sane h mid.choice (rw none (omega arith));
        script = mid.script;
        io_regions = mid.io_regions;
        due = subst N (sym next) mid.due;
      };
      sane = after.sane;
      counted = counted_turn Calls x s st.sane (few_events shown x s b st) st.counted;
    }

-- ## several turns

pub first_turn : {X : Type 0} {H : X → Type 0} (shown : Shows X H) (level : Level) (x : Scenario) (s : State) (b : Board X H) → Stands shown x b (turn level x s).state → notes_of b ≡ (turn level x s).notes → IsAdvanced shown level x 0 s b
unfolding turn_after
first_turn shown level x s b st notes = record { nothing = λ k lt. absurd (omega arith); goes_on = λ k lt. absurd (omega arith); stands = st; notes = notes }

-- no turn
pub none_made : {X : Type 0} {H : X → Type 0} (shown : Shows X H) (stops : Stops) (x : Scenario) (s : State) (b : Board X H) → Stands shown x b s → HasGlidden shown stops x s (turns_of b - turns_of b) b
unfolding state_after
none_made shown stops x s b st =
    let e : 0 ≡ turns_of b - turns_of b = omega arith in
    subst (λ (n : ℕ). HasGlidden shown stops x s n b) e record { stands = st; nothing = λ k lt. absurd (omega arith); goes_on = λ k lt. absurd (omega arith); past = λ k lt. absurd (omega arith); untouched = λ k at lt is. absurd (omega arith); notes = λ lt. absurd (omega arith) }

-- turns none of which noted anything, and one more
pub one_more : {X : Type 0} {H : X → Type 0} (shown : Shows X H) (stops : Stops) (x : Scenario) (n : ℕ) (s : State) (b b' : Board X H) → HasGlidden shown stops x s n b → Stands shown x b' (turn Calls x (state_after Calls x n s)).state → notes_of b' ≡ (turn Calls x (state_after Calls x n s)).notes → IsAdvanced shown Calls x n s b'
one_more shown stops x n s b b' h stands notes =
    let last : turn Calls x (state_after Calls x n s) ≡ turn_after Calls x n s = sym (last_turn Calls x n s) in
    record {
      nothing = h.nothing;
      goes_on = h.goes_on;
      stands = subst (λ (t : Turn). Stands shown x b' t.state) last stands;
      notes = notes ∙ ap (λ (t : Turn). t.notes) last;
    }

-- the last of them is the one more
pub all_made : {X : Type 0} {H : X → Type 0} (shown : Shows X H) (stops : Stops) (x : Scenario) (n : ℕ) (s : State) (b : Board X H) → HasGlidden shown stops x s (suc n) b → IsAdvanced shown Calls x n s b
unfolding state_after
all_made shown stops x n s b h =
    record {
      nothing = λ k lt. h.nothing k (omega (arith, lt));
      goes_on = λ k lt. h.goes_on k (omega (arith, lt));
      stands = h.stands;
      notes = h.notes (omega arith) ∙ sym (h.nothing n (omega arith));
    }

-- either below the last one, or the last one
below_or : (P : ℕ → Type 0) (m k : ℕ) → ((j : ℕ) → j < m → P j) → P m → k < suc m → P k
below_or P m k f last lt = by_last (eqb k m) refl
  where
    by_last : (b : Bool) → eqb k m ≡ b → P k
    by_last true e = subst P (sym (eqb-true k m e)) last
    by_last false e = f k (omega (arith, eqb-false k m e))

either : (n j : ℕ) → (j < n) ⊎ ((i : ℕ) × (j ≡ n + i))
either zero j = inr (j, omega arith)
either (suc n) zero = inl (omega arith)
either (suc n) (suc j) = by (either n j)
  where
    by : (j < n) ⊎ ((i : ℕ) × (j ≡ n + i)) → (suc j < suc n) ⊎ ((i : ℕ) × (suc j ≡ suc n + i))
    by (inl lt) = inl (omega (arith, lt))
    by (inr (i, e)) = inr (i, omega (arith, e))

-- turns after turns, of which the last one of the first noted nothing and is no end
pub joined : {X : Type 0} {H : X → Type 0} (shown : Shows X H) (x : Scenario) (n m : ℕ) (s : State) (b b' : Board X H) → IsAdvanced shown Calls x n s b → notes_of b ≡ [] → ending x 1 (turn_after Calls x n s).state ≡ None → IsAdvanced shown Calls x m (turn_after Calls x n s).state b' → IsAdvanced shown Calls x (n + suc m) s b'
joined shown x n m s b b' a none goes more =
    record {
      nothing = λ j lt. nothing_at j lt (either (suc n) j);
      goes_on = λ j lt. goes_at j lt (either (suc n) j);
      stands = subst (λ (t : Turn). Stands shown x b' t.state) (turn_further Calls x n m s) more.stands;
      notes = more.notes ∙ ap (λ (t : Turn). t.notes) (turn_further Calls x n m s);
    }
  where
    later : (i j : ℕ) → j ≡ suc n + i → turn_after Calls x j s ≡ turn_after Calls x i (turn_after Calls x n s).state
    later i j e = let same : j ≡ n + suc i = omega (arith, e) in ap (λ (k : ℕ). turn_after Calls x k s) same ∙ sym (turn_further Calls x n i s)

    nothing_at : (j : ℕ) → j < n + suc m → (j < suc n) ⊎ ((i : ℕ) × (j ≡ suc n + i)) → (turn_after Calls x j s).notes ≡ []
    nothing_at j lt (inl less) = below_or (λ k. (turn_after Calls x k s).notes ≡ []) n j a.nothing (sym a.notes ∙ none) less
    nothing_at j lt (inr (i, e)) = ap (λ (t : Turn). t.notes) (later i j e) ∙ more.nothing i (omega (arith, lt, e))

    goes_at : (j : ℕ) → j < n + suc m → (j < suc n) ⊎ ((i : ℕ) × (j ≡ suc n + i)) → ending x 1 (turn_after Calls x j s).state ≡ None
    goes_at j lt (inl less) = below_or (λ k. ending x 1 (turn_after Calls x k s).state ≡ None) n j a.goes_on goes less
    goes_at j lt (inr (i, e)) = ap (λ (t : Turn). ending x 1 t.state) (later i j e) ∙ more.goes_on i (omega (arith, lt, e))

-- ## where turns end

-- turns that stop at a place below the limit, or stay past it
pub below_limit : (until from to limit : ℕ) → (from ≤ until → to ≤ until) → (until ≤ from → to ≡ from) → until ≤ limit → from < limit → to ≤ limit
below_limit until from to limit within stays less left = by (leb from until) refl
  where
    by : (b : Bool) → leb from until ≡ b → to ≤ limit
    by true e = let h = within (leb-true from until e) in omega (arith, h, less)
    by false e = let h = stays (let gt = leb-false from until e in omega (arith, gt)) in omega (arith, h, left)

-- the fast path stops before a turn, or has come to it
pub either_way : (to until : ℕ) (P Q : Type 0) → (to < until → P) → (until ≤ to → Q) → Q ⊎ P
either_way to until P Q before there = by (ltb to until) refl
  where
    by : (b : Bool) → ltb to until ≡ b → Q ⊎ P
    by true e = inr (before (ltb-true to until e))
    by false e = inl (there (ltb-false to until e))

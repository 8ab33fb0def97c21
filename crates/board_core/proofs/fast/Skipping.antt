-- Idle turns on end.
use Rattle.std.proofs.Common.{◌≡◌, ◌≢◌, ◌+◌, ◌-◌, ◌<◌, ◌≤◌, ℕ, zero, suc, Bool, true, false, ◌||◌, List, [], ◌∷◌, Option, Some, None, refl, sym, ◌∙◌, ap, subst, arith, leb}
use Rattle.std.specs.Prelude.{is_some}
use Rattle.std.specs.List.{list_any}
use Rattle.std.proofs.lemmas.Bool.Decides.{nat_tests}
use Rattle.kernel_abi.specs.declared.Note.{Note}
use Rattle.mem_banks.specs.Memory.{Memory, byte_at}
use Rattle.run_script.specs.Scripts.{Listed, ScriptData, IsNext, events_of, lasts}
use Rattle.task_table.specs.model.State.{State, Turn}
use Rattle.task_table.specs.model.Reading.{chosen, task_at, is_ready, call_of, listen_of}
use Rattle.task_table.specs.kept.Holds.{notes_of as kernel_notes}
use Rattle.task_table.specs.model.Start.{begun}
use Rattle.board_core.specs.declared.board.Board.{Board}
use Rattle.board_core.specs.declared.machine.Machine.{Machine}
use Rattle.board_model.specs.declared.outcomes.Level.TheVariants.{Calls}
use Rattle.board_model.specs.Script.{Scenario}
use Rattle.board_model.specs.declared.outcomes.Turned.TheVariants.{Idle}
use Rattle.board_model.specs.Turn.{turn, turn_of, ended, after_events, turned}
use Rattle.board_model.specs.Run.{ending, is_down, turn_after, state_after}
use Rattle.board_model.proofs.Outside.{no_event, begun_state}
use Rattle.board_model.proofs.Further.{last_turn}
use Rattle.board_core.specs.Machine.{MachineHolds, IsNext as IsNext-machine}
use Rattle.board_core.specs.Stands.{Stands, notes_of, turns_of}
use Rattle.board_core.specs.fast.Advanced.{HasGlidden, IsCall}
use Rattle.board_core.specs.fast.Breakpoints.{is_hit}
use Rattle.board_core.specs.fast.Stops.{Stops}
use Rattle.board_core.specs.fast.Windowed.{IsCalling}
use Rattle.board_core.specs.Midway.{IsMidway}
use Rattle.board_core.specs.fast.Skipped.{IsIdleUntil}
use Rattle.board_core.proofs.fast.WindowTurns.{turned_there}
use Rattle.board_core.proofs.Turning.{HasTurned, as_chosen, noted_in}
use Rattle.board_core.proofs.fast.Gliding.{midway_now, stands_so}
use Rattle.board_core.specs.Data.{Shows}

-- ## an idle turn

at : State → ℕ → State
at s n = record s { turn = n }

chosen_at : (x : Scenario) (s : State) (n : ℕ) → chosen x.setup (at s n) ≡ chosen x.setup s
unfolding chosen is_ready task_at call_of listen_of at
chosen_at x s n = refl

down_at : (s : State) (n : ℕ) → is_down (at s n) ≡ is_down s
unfolding task_at at
down_at s n = refl

idle_turn : (x : Scenario) (s : State) → chosen x.setup s ≡ None → events_of x.script s.turn ≡ [] → ((turn Calls x s).state ≡ at s (s.turn + 1)) × ((turn Calls x s).notes ≡ [])
unfolding turn ended begun at
idle_turn x s none nothing =
    let e : after_events x s ≡ begun s = sym (no_event x s nothing) in
    rw (e, none) (refl, refl)

-- ## idle turns on end

module _ (x : Scenario) (s : State) (to : ℕ) (idle : IsIdleUntil x s to) where
  states : (k : ℕ) → s.turn + k ≤ to → state_after Calls x k s ≡ at s (s.turn + k)
  unfolding state_after at
  states zero le = let e : s.turn ≡ s.turn + 0 = omega arith in ap (at s) e
  states (suc k) le =
      let same = states k (omega (arith, le)) in
      let one = idle_turn x (at s (s.turn + k)) (chosen_at x s (s.turn + k) ∙ idle.none) (idle.nothing (s.turn + k) (omega arith) (omega (arith, le))) in
      let e : s.turn + k + 1 ≡ s.turn + suc k = omega arith in
      ap (λ (t : Turn). t.state) (last_turn Calls x k s) ∙ ap (λ (u : State). (turn Calls x u).state) same ∙ one.0 ∙ ap (at s) e

  pub turn_then : (k : ℕ) → s.turn + k ≤ to → (state_after Calls x k s).turn ≡ s.turn + k
  unfolding at
  turn_then k le = ap (λ (u : State). u.turn) (states k le)

  pub memory_then : (k : ℕ) → s.turn + k ≤ to → (state_after Calls x k s).memory ≡ s.memory
  unfolding at
  memory_then k le = ap (λ (u : State). u.memory) (states k le)

  pub none_then : (k : ℕ) → s.turn + k ≤ to → chosen x.setup (state_after Calls x k s) ≡ None
  none_then k le = ap (chosen x.setup) (states k le) ∙ chosen_at x s (s.turn + k) ∙ idle.none

  pub silent_then : (k : ℕ) → s.turn + k < to → (turn_after Calls x k s).notes ≡ []
  unfolding at
  silent_then k lt =
      let one = idle_turn x (at s (s.turn + k)) (chosen_at x s (s.turn + k) ∙ idle.none) (idle.nothing (s.turn + k) (omega arith) lt) in
      ap (λ (t : Turn). t.notes) (last_turn Calls x k s) ∙ ap (λ (u : State). (turn Calls x u).notes) (states k (omega (arith, lt))) ∙ one.1

  -- none runs a task
  pub idle_then : (k : ℕ) → s.turn + k < to → turned x (state_after Calls x k s) ≡ Idle
  idle_then k lt =
      let at = turn_then k (omega (arith, lt)) in
      turned_there x (state_after Calls x k s) None (none_then k (omega (arith, lt))) (ap (events_of x.script) at ∙ idle.nothing (s.turn + k) (omega arith) lt)

  pub goes_then : (k : ℕ) → s.turn + k ≤ to → lasts x.script (s.turn + k) ≡ true → ending x 1 (state_after Calls x k s) ≡ None
  unfolding ending
  goes_then k le more =
      let down : is_down (state_after Calls x k s) ≡ false = ap is_down (states k le) ∙ down_at s (s.turn + k) ∙ idle.up in
      let on : lasts x.script (state_after Calls x k s).turn ≡ true = ap (lasts x.script) (turn_then k le) ∙ more in
      rw (down, none_then k le, on) refl

-- ## the board over them

-- a board that has no task to run, after one idle turn
idle_board : {X : Type 0} {H : X → Type 0} (shown : Shows X H) (x : Scenario) (s : State) (b : Board X H) → Stands shown x b s → notes_of b ≡ [] → b.choice.next ≡ None → b.due ≢ Some (turns_of b) → turns_of b < 1000000000 → Stands shown x record b { turns = turns_of b + 1 } (turn Calls x s).state
idle_board shown x s b st quiet none ne few =
    let mid = midway_now shown x s b st quiet ne few in
    let P : Option ℕ → Type 0 = λ o. MachineHolds shown x.setup b.machine (turn_of Calls x.setup o (after_events x s)) in
    let h : HasTurned shown Calls x s b.machine = as_chosen shown Calls x s b.machine b.choice mid.choice (subst P (sym none) mid.machine.holds) in
    stands_so shown x s b b.machine (turns_of b + 1) st mid h quiet refl

pub skipped : {X : Type 0} {H : X → Type 0} (shown : Shows X H) (x : Scenario) (s : State) (b : Board X H) (k : ℕ) → Stands shown x b s → notes_of b ≡ [] → b.choice.next ≡ None → ((turn : ℕ) → turn < turns_of b + k → b.due ≡ Some turn → ⊥) → turns_of b + k ≤ 1000000000 →
    Stands shown x record b { turns = turns_of b + k } (state_after Calls x k s)
unfolding state_after
skipped shown x s b zero st quiet none later few = let e : turns_of b ≡ turns_of b + 0 = omega arith in subst (λ (n : ℕ). Stands shown x record b { turns = n } s) e st
skipped shown x s b (suc k) st quiet none later few =
    let u : State = state_after Calls x k s in
    let before = skipped shown x s b k st quiet none (λ n lt. later n (omega (arith, lt))) (omega (arith, few)) in
    let one = idle_board shown x u record b { turns = turns_of b + k } before quiet none (later (turns_of b + k) (omega arith)) (omega (arith, few)) in
    let e : turns_of b + k + 1 ≡ turns_of b + suc k = omega arith in
    subst (λ (v : State). Stands shown x record b { turns = turns_of b + suc k } v) (sym (ap (λ (t : Turn). t.state) (last_turn Calls x k s))) (subst (λ (n : ℕ). Stands shown x record b { turns = n } (turn Calls x u).state) e one)

-- a board whose turn has begun notes nothing, and stands for the same states
pub quiet_begun : {X : Type 0} {H : X → Type 0} (shown : Shows X H) (x : Scenario) (s : State) (m : Machine X H) → MachineHolds shown x.setup m (begun s) → kernel_notes m.space.kernel ≡ []
unfolding begun
quiet_begun shown x s m h = noted_in shown x.setup m (begun s) h

pub begun_board : {X : Type 0} {H : X → Type 0} (shown : Shows X H) (x : Scenario) (s : State) (b : Board X H) (m : Machine X H) → Stands shown x b s → MachineHolds shown x.setup m (begun s) → Stands shown x record b { machine = m } s
unfolding begun
begun_board shown x s b m st h =
    let P : List Note → Type 0 = λ ns. MachineHolds shown x.setup m record { state = s; notes = ns; writes = []; reads = [] } in
    record {
      holds = record {
        machine = subst P (sym (quiet_begun shown x s m h)) h;
        turns = st.holds.turns;
        choice = st.holds.choice;
        script = st.holds.script;
        due = st.holds.due;
        io_regions = st.holds.io_regions;
      };
      sane = st.sane;
      counted = st.counted;
    }

-- ## they are turns on end of which none notes anything

-- something that happens at a turn or later happens at an earlier turn or later
or_true : (b : Bool) → (b || true) ≡ true
or_true true = refl
or_true false = refl

any_from : (events : List Listed) (from to : ℕ) → from ≤ to → list_any (λ listed. leb to listed.0) events ≡ true → list_any (λ listed. leb from listed.0) events ≡ true
any_from [] from to le more = more
any_from (e ∷ es) from to le more = by_first (leb to e.0) refl (any_from es from to le)
  where
    by_first : (b : Bool) → leb to e.0 ≡ b → (list_any (λ listed. leb to listed.0) es ≡ true → list_any (λ listed. leb from listed.0) es ≡ true) → list_any (λ listed. leb from listed.0) (e ∷ es) ≡ true
    by_first true is rest = let here : leb from e.0 ≡ true = grind (arith, nat_tests, is) in rw here refl
    by_first false is rest = ap (λ (b : Bool). leb from e.0 || b) (rest (rw is at more)) ∙ or_true (leb from e.0)

pub lasts_from : (script : ScriptData) (from to : ℕ) → from ≤ to → lasts script to ≡ true → lasts script from ≡ true
lasts_from script from to le more = by_every (is_some script.every) refl
  where
    by_every : (b : Bool) → is_some script.every ≡ b → lasts script from ≡ true
    by_every true is = rw is refl
    by_every false is = rw is (any_from script.events from to le (rw is at more))

pub idle_made : {X : Type 0} {H : X → Type 0} (shown : Shows X H) (stops : Stops) (x : Scenario) (s : State) (to : ℕ) (b : Board X H) → IsIdleUntil x s to → s.turn ≤ to → lasts x.script to ≡ true → Stands shown x b (state_after Calls x (to - s.turn) s) → notes_of b ≡ [] → HasGlidden shown stops x s (to - s.turn) b
unfolding state_after
idle_made shown stops x s to b idle from more st none =
    record {
      stands = st;
      nothing = λ k lt. silent_then x s to idle k (omega (arith, lt));
      goes_on = λ k lt. goes_then x s to idle (suc k) (omega (arith, lt, from)) (lasts_from x.script (s.turn + suc k) to (omega (arith, lt, from)) more);
      past = λ k lt. ap (is_hit stops.breakpoints) (idle_then x s to idle k (omega (arith, lt)));
      untouched = λ k at lt is. ap (λ (m : Memory). byte_at m at) (memory_then x s to idle (suc k) (omega (arith, lt)));
      notes = λ lt. none;
    }

-- ## when a board may skip

-- what is due no earlier than `to`
pub quiet_before : (script : ScriptData) (from to : ℕ) (due : Option ℕ) → IsNext script from due → ((turn : ℕ) → turn < to → due ≢ Some turn) → to ≤ 1000000000 → (turn : ℕ) → from ≤ turn → turn < to → events_of script turn ≡ []
quiet_before script from to None next later few turn le lt = next turn le (omega (arith, lt, few))
quiet_before script from to (Some n) next later few turn le lt = next.3 turn le (after n (λ less. later n less refl))
  where
    after : (n : ℕ) → (n < to → ⊥) → turn < n
    after n not-before = grind (arith, lt)

pub idle_board_until : {X : Type 0} {H : X → Type 0} (shown : Shows X H) (x : Scenario) (s : State) (b : Board X H) (to : ℕ) → Stands shown x b s → b.choice.next ≡ None → b.choice.down ≡ false → ((turn : ℕ) → turn < to → b.due ≢ Some turn) → to ≤ 1000000000 → IsIdleUntil x s to
idle_board_until shown x s b to st none up later few =
    record {
      none = sym st.holds.choice.next ∙ none;
      up = sym st.holds.choice.down ∙ up;
      nothing = quiet_before x.script s.turn to b.due st.holds.due later few;
    }

-- what may be skipped has nothing due before
pub not_due : (script : ScriptData) (from to : ℕ) (due : Option ℕ) → IsNext script from due → ((turn : ℕ) → from ≤ turn → turn < to → events_of script turn ≡ []) → (turn : ℕ) → turn < to → due ≢ Some turn
not_due script from to None next nothing turn lt e = absurd (cc)
not_due script from to (Some n) next nothing turn lt e = next.2 (nothing n next.0 (let same : n ≡ turn = cc in omega (arith, same, lt)))

-- where turns came to the one that was due next
pub due_now : (x : Scenario) (s u : State) (due : Option ℕ) (from to until limit : ℕ) → IsNext x.script s.turn due → (until < limit → due ≡ Some until) → from ≡ s.turn → to ≡ u.turn → (from ≤ until → to ≤ until) → until ≤ to → to < limit → events_of x.script u.turn ≢ []
due_now x s u due from to until limit next met began is within over less =
    let now : IsNext x.script s.turn (Some until) = subst (λ (d : Option ℕ). IsNext x.script s.turn d) (met (omega (arith, over, less))) next in
    let e : until ≡ u.turn = let below = within (omega (arith, began, now.0)) in omega (arith, below, over, is) in
    subst (λ (n : ℕ). events_of x.script n ≢ []) e now.2

-- ## a system call that is made without a second fetch

-- a board whose turn has begun, in which a task makes a call
pub record IsCallNow {X : Type 0} {H : X → Type 0} (shown : Shows X H) (x : Scenario) (s : State) (b : Board X H) (task : ℕ) : Type 0 where
  pub midway : IsMidway shown x b s
  pub next : IsNext-machine shown x.setup b.machine (after_events x s) (Some task)
  pub calling : IsCalling x.setup task (after_events x s).state

pub call_now : {X : Type 0} {H : X → Type 0} (shown : Shows X H) (x : Scenario) (s : State) (b : Board X H) (m : Machine X H) (task : ℕ) → Stands shown x b s → IsCall x s task → turns_of b < 1000000000 → MachineHolds shown x.setup m (begun s) → IsCallNow shown x s record b { machine = m } task
call_now {X} {H} shown x s b0 m task st0 call few holds =
    let b : Board X H = record b0 { machine = m } in
    let st : Stands shown x b s = begun_board shown x s b0 m st0 holds in
    let at = st0.holds.turns in
    let same : (after_events x s).state ≡ s = ap (λ (t : Turn). t.state) (sym (no_event x s call.nothing)) ∙ begun_state s in
    let quiet : (turn : ℕ) → s.turn ≤ turn → turn < s.turn + 1 → events_of x.script turn ≡ [] = λ turn from below. let is : s.turn ≡ turn = omega (arith, from, below) in subst (λ (n : ℕ). events_of x.script n ≡ []) is call.nothing in
    let later : b.due ≢ Some (turns_of b) = not_due x.script s.turn (s.turn + 1) b.due st.holds.due quiet (turns_of b) (omega (arith, at)) in
    let mid = midway_now shown x s b st (quiet_begun shown x s m holds) later few in
    record {
      midway = mid;
      next = record { stands = mid.machine; is = sym call.chosen ∙ ap (chosen x.setup) (sym same) };
      calling = subst (λ (u : State). IsCalling x.setup task u) (sym same) call.calling;
    }

-- What a board stands for once its machine has made a turn.
use Rattle.std.proofs.Common.{◌≡◌, ◌+◌, ◌≤◌, ℕ, true, List, [], ◌∷◌, length, eqb, Option, refl, sym, ◌∙◌, ap, subst, arith}
use Rattle.std.proofs.lemmas.Bool.{eqb-true}
use Rattle.kernel_abi.specs.declared.Note.{Note}
use Rattle.run_script.specs.Events.{script_data}
use Rattle.run_script.specs.Scripts.{ScriptData, events_of}
use Rattle.run_script.proofs.Each.{each_turn}
use Rattle.task_table.specs.model.State.{Setup, State, Turn}
use Rattle.task_table.specs.model.Reading.{chosen}
use Rattle.task_table.specs.kept.Holds.{notes_of, note_count}
use Rattle.task_table.specs.model.Sane.{Sane}
use Rattle.board_core.specs.declared.machine.Machine.{Machine}
use Rattle.board_core.specs.declared.choice.Choice.{Choice}
use Rattle.board_core.specs.declared.board.Board.{Board}
use Rattle.board_core.specs.Machine.{IsNext, MachineHolds, MachineStands}
use Rattle.board_model.specs.declared.outcomes.Level.{Level}
use Rattle.board_core.specs.Midway.{IsMidway}
use Rattle.board_model.specs.Script.{Scenario}
use Rattle.board_core.specs.Stands.{Stands}
use Rattle.board_core.specs.Kept.{IsChoice}
use Rattle.board_model.specs.Turn.{turn, ended, turn_of, after_events}
use Rattle.board_core.proofs.Loading.{rest_held, between_by}
use Rattle.board_model.proofs.TurnChains.{sane-after, sane-after_events}
use Rattle.board_model.proofs.Quiet.{quiet-turn}
use Rattle.board_core.specs.Data.{Shows}

-- a machine between turns
abbrev pub rested : {X : Type 0} {H : X → Type 0} → Machine X H → State → Turn
rested m s = record { state = s; notes = notes_of m.space.kernel; writes = []; reads = [] }

pub noted_in : {X : Type 0} {H : X → Type 0} (shown : Shows X H) (g : Setup) (m : Machine X H) (t : Turn) → MachineHolds shown g m t → notes_of m.space.kernel ≡ t.notes
noted_in shown g m t h = let w = rest_held shown m.loaded g m.space m.glider.runner.processor t h in w.holds.notes ∙ sym w.rest.notes

some_left : (x : Note) (xs : List Note) → length (x ∷ xs) ≡ 0 → ⊥
some_left x xs e = omega arith

pub empty_of : (xs : List Note) → eqb (length xs) 0 ≡ true → xs ≡ []
empty_of [] h = refl
empty_of (x ∷ xs) h = absurd (some_left x xs (eqb-true _ _ h))

pub next_of : {X : Type 0} {H : X → Type 0} (shown : Shows X H) (x : Scenario) (s : State) (b : Board X H) → IsMidway shown x b s → IsNext shown x.setup b.machine (after_events x s) b.choice.next
next_of shown x s b mid = record { stands = mid.machine; is = mid.choice.next }

module _ {X : Type 0} {H : X → Type 0} (shown : Shows X H) (level : Level) (x : Scenario) (s : State) (m : Machine X H) where
  -- the chosen task's turn, as the machine has it
  abbrev pub HasTurned : Type 0
  HasTurned = MachineHolds shown x.setup m (turn_of level x.setup (chosen x.setup (after_events x s).state) (after_events x s))

  -- the machine's turn of the kept choice is the turn of the chosen task
  pub as_chosen : (kept : Choice) → IsChoice x.setup (after_events x s).state kept → MachineHolds shown x.setup m (turn_of level x.setup kept.next (after_events x s)) → HasTurned
  as_chosen kept is h =
      let P : Option ℕ → Type 0 = λ o. MachineHolds shown x.setup m (turn_of level x.setup o (after_events x s)) in
      subst P is.next h

  -- a machine that holds what a turn has come to stands for the state after it
  pub stands_after : Sane x.setup s → HasTurned → MachineStands shown x.setup m (rested m (turn level x s).state)
  unfolding turn ended
  stands_after sane h =
      let t = after_events x s in
      let u : Turn = turn_of level x.setup (chosen x.setup t.state) t in
      record { holds = between_by shown m.loaded x.setup m.space m.glider.runner.processor u (u.state.turn + 1) h; sane = sane-after level x s sane }

  pub turn_notes : HasTurned → notes_of m.space.kernel ≡ (turn level x s).notes
  unfolding turn ended
  turn_notes h = noted_in shown x.setup m (turn_of level x.setup (chosen x.setup (after_events x s).state) (after_events x s)) h

  -- where it noted nothing after its events, the choice after them is the one after the turn
  pub choice_kept : (kept : Choice) → Sane x.setup s → HasTurned → IsChoice x.setup (after_events x s).state kept → length (notes_of m.space.kernel) ≤ length (after_events x s).notes → IsChoice x.setup (turn level x s).state kept
  choice_kept kept sane h is few =
      let same = quiet-turn level x s (sane-after_events x s sane) (rw (sym (turn_notes h)) few) in
      record {
        next = is.next ∙ sym same.next;
        order = is.order;
        ready = record { ordered = is.ready.ordered; each = λ i there. is.ready.each i there ∙ sym (same.ready i) };
        down = is.down ∙ sym same.down;
      }

-- the notes that another machine has of the same turn are the same
pub rested_as : {X : Type 0} {H : X → Type 0} (shown : Shows X H) (g : Setup) (m m' : Machine X H) (s : State) → MachineHolds shown g m' (rested m s) → MachineHolds shown g m' (rested m' s)
rested_as shown g m m' s h =
    let P : List Note → Type 0 = λ n. MachineHolds shown g m' record { state = s; notes = n; writes = []; reads = [] } in
    subst P (sym (noted_in shown g m' (rested m s) h)) h

-- a turn has nine events at most
pub few_events : {X : Type 0} {H : X → Type 0} (shown : Shows X H) (x : Scenario) (s : State) (b : Board X H) → Stands shown x b s → length (events_of x.script s.turn) ≤ 9
few_events shown x s b st =
    let P : ScriptData → Type 0 = λ script. length (events_of script s.turn) ≤ 9 in
    subst P st.holds.script (each_turn (script_data b.script) b.script.facts s.turn).few

-- where as many notes are there as there were, and none were, none are
pub none_of : {X : Type 0} {H : X → Type 0} (m m' : Machine X H) → notes_of m.space.kernel ≡ [] → note_count m'.space.kernel ≡ note_count m.space.kernel → notes_of m'.space.kernel ≡ []
none_of m m' none e = empty_by (notes_of m'.space.kernel) (e ∙ ap (λ (xs : List Note). length xs) none)
  where
    empty_by : (xs : List Note) → length xs ≡ 0 → xs ≡ []
    empty_by [] h = refl
    empty_by (x ∷ xs) h = absurd (some_left x xs h)

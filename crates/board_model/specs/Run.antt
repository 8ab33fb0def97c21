-- A whole run: turns, with a test before each whether the run ends.
use Rattle.std.specs.Prelude.{ℕ, zero, suc, Bool, ◌&&◌, not, List, [], ◌++◌, map, Option, Some, None, ◌==◌, if◌then◌else◌, is_none}
use Rattle.kernel_abi.specs.declared.Note.{Note}
use Rattle.task_table.specs.model.State.{State, Turn}
use Rattle.task_table.specs.model.Reading.{task_at, is_faulted, chosen}
use Rattle.board_model.specs.declared.outcomes.End.{End}
use Rattle.board_model.specs.declared.outcomes.End.TheVariants.{Bound, Still, Supervisor}
use Rattle.run_script.specs.Scripts.{lasts}
use Rattle.board_model.specs.declared.outcomes.Level.{Level}
use Rattle.board_model.specs.Script.{Scenario}
use Rattle.board_model.specs.Turn.{turn}

-- the supervisor has faulted
abbrev pub is_down : State → Bool
is_down s = is_faulted (task_at s 0).health

-- no task is ready, and nothing more comes from outside
abbrev pub is_still : Scenario → State → Bool
is_still x s = is_none (chosen x.setup s) && not (lasts x.script s.turn)

-- the tests before a turn in their order, with this many turns left
abbrev pub end_by : Bool → ℕ → Bool → Option End
end_by down left still = if down then Some Supervisor else (if left == 0 then Some Bound else (if still then Some Still else None))

unfoldable pub ending : Scenario → ℕ → State → Option End
ending x left s = end_by (is_down s) left (is_still x s)

-- the end by the same tests, without the bound
abbrev pub end_in : Bool → Bool → Option End
end_in down still = if down then Some Supervisor else (if still then Some Still else None)

-- the end of a run at a state, without the bound
abbrev pub end_at : Scenario → State → Option End
end_at x s = end_in (is_down s) (is_still x s)

pub record Run : Type 0 where
  pub last : State
  pub notes : List (ℕ × Note)  -- each with its turn
  pub end : End

abbrev pub ended_at : State → End → Run
ended_at s e = record { last = s; notes = []; end = e }

-- a run with these notes before its own
abbrev pub with_front : List (ℕ × Note) → Run → Run
with_front front r = record r { notes = front ++ r.notes }

abbrev pub unless : State → Option End → Run → Run
unless s (Some e) more = ended_at s e
unless s None more = more

abbrev pub at_turn : ℕ → List Note → List (ℕ × Note)
at_turn n notes = map (λ note. (n, note)) notes

-- the turn that follows n turns from a state
unfoldable pub turn_after : Level → Scenario → ℕ → State → Turn
turn_after level x zero s = turn level x s
turn_after level x (suc n) s = turn level x (turn_after level x n s).state

-- the state after n turns
unfoldable pub state_after : Level → Scenario → ℕ → State → State
state_after level x zero s = s
state_after level x (suc n) s = (turn_after level x n s).state

-- the notes of the first n turns from a state
unfoldable pub notes_after : Level → Scenario → ℕ → State → List Note
notes_after level x zero s = []
notes_after level x (suc n) s = notes_after level x n s ++ (turn_after level x n s).notes

-- the run from a state, with at most this many turns
unfoldable pub run : Level → Scenario → ℕ → State → Run
run level x zero s = unless s (ending x 0 s) (ended_at s Bound)
run level x (suc left) s =
    unless s (ending x (suc left) s)
    (with_front (at_turn s.turn (turn level x s).notes) (run level x left (turn level x s).state))

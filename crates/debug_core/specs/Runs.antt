-- A run from its start, turn by turn.
use Rattle.std.specs.Prelude.{ℕ, ◌≡◌, ◌+◌, ◌-◌, min, List, Option}
use Rattle.kernel_abi.specs.declared.Note.{Note}
use Rattle.task_table.specs.model.State.{State}
use Rattle.task_table.specs.model.Sane.{Sane}
use Rattle.board_model.specs.declared.outcomes.End.{End}
use Rattle.board_model.specs.declared.outcomes.Level.TheVariants.{Calls}
use Rattle.board_model.specs.Cut.{cut_at}
use Rattle.board_model.specs.Run.{ending, run}
use Rattle.board_model.specs.Script.{Scenario, start_of}

-- a run has at most this many turns
abbrev pub most_turns : ℕ
most_turns = 1000000000

-- the state of the run from the start before a turn, or at the end of the run if that comes first
abbrev pub state_at : Scenario → ℕ → State
state_at x turn = cut_at Calls x turn (start_of x)

-- why the run ends at a turn, if it does
abbrev pub end_here : Scenario → ℕ → Option End
end_here x turn = ending x (most_turns - turn) (state_at x turn)

-- the run starts sane and reaches this turn
pub record Reaches (x : Scenario) (turn : ℕ) : Type 0 where
  pub start : Sane x.setup (start_of x)
  pub turn_is : (state_at x turn).turn ≡ turn

-- all notes of the run, each with its turn
abbrev pub notes_of_run : Scenario → List (ℕ × Note)
notes_of_run x = (run Calls x most_turns (start_of x)).notes

-- the turn that is n turns after a cursor, or the end of the run if that comes first
abbrev pub forward : Scenario → ℕ → ℕ → ℕ
forward x cursor n = (state_at x (min (cursor + n) most_turns)).turn

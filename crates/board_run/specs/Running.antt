-- The end of a run under a bound, and what is kept of a board whose run was broken off.
use Rattle.std.specs.Prelude.{ℕ, ◌-◌, ◌==◌, if◌then◌else◌, List, ◌++◌, Option, Some, None}
use Rattle.std.specs.Io.KnownBytes.{Appends}
use Rattle.outside_io.specs.Outside.{IsFront}
use Rattle.board_model.specs.declared.outcomes.End.{End}
use Rattle.board_model.specs.declared.outcomes.End.TheVariants.{Bound, Still, Supervisor}
use Rattle.task_table.specs.model.State.{State}
use Rattle.board_core.specs.declared.board.Board.{Board}
use Rattle.board_core.specs.Data.{Shows}
use Rattle.board_model.specs.declared.outcomes.Level.{Level}
use Rattle.board_model.specs.Script.{Scenario}
use Rattle.board_core.specs.Stands.{Stands, turns_of}
use Rattle.board_model.specs.Run.{run}
use Rattle.board_run.specs.Text.{end_text}
use Rattle.trace_text.specs.Lines.{notes_text}

-- how a run ends with this many turns left, if this is how it would end without a bound
abbrev pub end_within : Option End → ℕ → Option End
end_within (Some Supervisor) left = Some Supervisor
end_within (Some Bound) left = if left == 0 then Some Bound else Some Bound
end_within (Some Still) left = if left == 0 then Some Bound else Some Still
end_within None left = if left == 0 then Some Bound else None

-- the board stands for the state that the run from s has at the board's turn number
abbrev pub StandsMidway : {X : Type 0} {H : X → Type 0} → Shows X H → Level → Scenario → Board X H → State → Type 0
StandsMidway shown level x b s = Stands shown x b (run level x (turns_of b - s.turn) s).last

-- the lines of the first n turns
abbrev pub turn_lines : Level → Scenario → ℕ → State → List ℕ
turn_lines level x n s = notes_text (run level x n s).notes

-- A run of at most this many turns was broken off. At least the lines of all turns but the last one that was
-- made were pushed. At most the lines of that turn were pushed too, and those of the end after it.
pub record BreaksOff {X : Type 0} {H : X → Type 0} (level : Level) (x : Scenario) (limit : ℕ) (w w' : Option (List ℕ)) (s : State) (b : Board X H) : Type 0 where
  pub front : List ℕ
  pub pushed : Appends w w' front
  pub least : IsFront (turn_lines level x (turns_of b - s.turn - 1) s) front
  pub most : IsFront front (turn_lines level x (turns_of b - s.turn) s ++ end_text (run level x limit s).end (run level x (turns_of b - s.turn) s).last)

-- A board that has made a turn of a run.
use Rattle.std.specs.Prelude.{ℕ, ◌≡◌, ◌+◌, Option}
use Rattle.task_table.specs.model.State.{State}
use Rattle.board_model.specs.declared.outcomes.Level.TheVariants.{Calls}
use Rattle.board_model.specs.declared.outcomes.Turned.{Turned}
use Rattle.board_model.specs.Script.{Scenario}
use Rattle.board_model.specs.Turn.{turn, turned}
use Rattle.board_core.specs.declared.board.Board.{Board}
use Rattle.board_core.specs.Data.{Shows}
use Rattle.board_core.specs.Stands.{Stands, notes_of, turns_of}
use Rattle.run_question.specs.declared.asked.Property.{Property}
use Rattle.explore_core.specs.There.{AreThere, byte_before}

-- a board has made the turn from a state, of which this byte was looked at before
pub record IsMade {X : Type 0} {H : X → Type 0} (shown : Shows X H) (x : Scenario) (p : Property) (before : Option ℕ) (made : Turned) (b : Board X H) (s : State) : Type 0 where
  pub stands : Stands shown x b (turn Calls x s).state
  pub notes : notes_of b ≡ (turn Calls x s).notes
  pub turned : made ≡ turned x s
  pub byte : before ≡ byte_before p s
  pub there : AreThere p (turn Calls x s).state
  pub turns : turns_of b ≡ s.turn + 1

-- In the middle of a run. The notes so far were told, and the run goes on from a state for which the board
-- stands.
use Rattle.std.specs.Prelude.{◌≡◌, ◌≤◌, ℕ, ◌+◌, ◌-◌, ◌*◌, List, length}
use Rattle.kernel_abi.specs.declared.Note.{Note}
use Rattle.task_table.specs.kept.Limits.{turn_notes}
use Rattle.task_table.specs.model.State.{State}
use Rattle.board_core.specs.declared.board.Board.{Board}
use Rattle.board_core.specs.Data.{Shows}
use Rattle.board_model.specs.declared.outcomes.Level.{Level}
use Rattle.board_model.specs.Script.{Scenario}
use Rattle.board_core.specs.Stands.{Stands}
use Rattle.board_model.specs.Run.{run, with_front}

pub record Midway {T : Type 0} {X : Type 0} {H : X → Type 0} (shown : Shows X H) (heard : T → List (ℕ × Note) → T → Type 0) (level : Level) (x : Scenario) (t t' : T) (s : State) (b : Board X H) : Type 0 where
  pub front : List (ℕ × Note)
  pub here : State
  pub stands : Stands shown x b here
  pub after : s.turn ≤ here.turn
  pub told : heard t front t'
  pub few : length front ≤ turn_notes * here.turn
  -- however many turns are left
  pub rest : (left : ℕ) → run level x (here.turn - s.turn + left) s ≡ with_front front (run level x left here)

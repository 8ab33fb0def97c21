-- Idle turns one after another, in which nothing happens and no task runs.
use Rattle.std.specs.Prelude.{ℕ, ◌≡◌, ◌≤◌, ◌<◌, false, [], None}
use Rattle.task_table.specs.model.State.{State}
use Rattle.task_table.specs.model.Reading.{chosen}
use Rattle.run_script.specs.Scripts.{events_of}
use Rattle.board_model.specs.Script.{Scenario}
use Rattle.board_model.specs.Run.{is_down}

-- no task is ready, the supervisor has not faulted, and nothing happens before the turn `to`
pub record IsIdleUntil (x : Scenario) (s : State) (to : ℕ) : Type 0 where
  pub none : chosen x.setup s ≡ None
  pub up : is_down s ≡ false
  pub nothing : (turn : ℕ) → s.turn ≤ turn → turn < to → events_of x.script turn ≡ []

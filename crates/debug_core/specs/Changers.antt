-- Which task changed a byte.
use Rattle.std.specs.Prelude.{◌≡◌, ℕ, Option, Some}
use Rattle.board_model.specs.declared.outcomes.Level.TheVariants.{Calls}
use Rattle.board_model.specs.Lifetimes.{MayReach}
use Rattle.board_model.specs.Script.{Scenario}
use Rattle.board_model.specs.Turn.{after_events, turn}
use Rattle.debug_core.specs.Runs.{state_at}

-- The task that the answer names ran in turn n of the run, and could change the byte. The byte lies in one of
-- the task's own regions, in the buffer of a listening task that takes the task's message in this turn, or in
-- the reply buffer or a writable lease of a call that the task serves.
pub record CouldChange (x : Scenario) (n at : ℕ) (told : Option ℕ) : Type 0 where
  pub task : ℕ
  pub is : told ≡ Some task
  pub may : MayReach x.setup (after_events x (state_at x n)).state task (turn Calls x (state_at x n)) at

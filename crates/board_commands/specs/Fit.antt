-- What is known of the numbers of a run that was written to its end.
use Rattle.std.specs.Prelude.{◌≡◌, ◌⊎◌, ◌≤◌, ℕ, length}
use Rattle.task_table.specs.model.Sane.{Sane, IsCounted}
use Rattle.board_model.specs.Run.{Run}
use Rattle.board_model.specs.Script.{Scenario, start_of}
use Rattle.board_run.specs.Timers.{HasFitTimers}
use Rattle.trace_text.specs.Fit.{AreFit}

-- the status of a run that was written to its end
abbrev pub IsOfRun : ℕ → Type 0
IsOfRun r = (r ≡ 0) ⊎ (r ≡ 6)

-- The run starts sane and ends sane, and its numbers are in range: no more turns than a run can have, no more
-- tasks than an image can have, each deadline below 2^64, and the numbers of the notes. So an audit accepts
-- its text.
pub record IsFitRun (x : Scenario) (r : Run) : Type 0 where
  pub start : Sane x.setup (start_of x)
  pub last : Sane x.setup r.last
  pub counted : IsCounted r.last
  pub turns : r.last.turn ≤ 1000000000
  pub tasks : length r.last.tasks ≤ 512
  pub timers : HasFitTimers r.last
  pub notes : AreFit r.notes

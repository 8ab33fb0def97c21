-- Timers whose deadlines are in range.
use Rattle.std.specs.Prelude.{ℕ, ◌<◌, length}
use Rattle.task_table.specs.model.State.{State}
use Rattle.task_table.specs.model.Reading.{task_at}
use Rattle.trace_text.specs.Fit.{IsFitTimer}

-- the timers of the first n tasks
abbrev pub AreFitTimers : State → ℕ → Type 0
AreFitTimers s n = (i : ℕ) → i < n → IsFitTimer (task_at s i).timer

abbrev pub HasFitTimers : State → Type 0
HasFitTimers s = AreFitTimers s (length s.tasks)

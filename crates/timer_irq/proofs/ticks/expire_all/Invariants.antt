use Rattle.std.proofs.Common.{◌*◌, ◌-◌, ◌≤◌}
use Rattle.std.specs.Prelude.{fold}
use Rattle.std.specs.List.{range_with_len}
use Rattle.task_table.specs.model.State.{Setup, Turn}
use Rattle.task_table.specs.model.Events.{expired}
use Rattle.task_table.specs.kept.Holds.{Holds, task_count}
use Rattle.task_table.specs.kept.Frames.{AddsAtMost}
use Rattle.timer_irq.specs.Midway.{AreNotPast}
use Rattle.timer_irq.proofs.ticks.expire_all.Given as goal

-- so far the timers of the first tasks are done
abbrev pub invariant-members : goal.invariant-members
invariant-members l = record {
  within : l.from ≤ task_count l.initial.k;
  frame : AddsAtMost l.initial.k (2 * l.from) l.k;
  holds : (g : Setup) (t : Turn) → Holds g l.initial.k t → AreNotPast t.state → Holds g l.k (fold expired t (range_with_len 0 l.from));
}

abbrev pub decreases-members : goal.decreases-members
decreases-members l = task_count l.initial.k - l.from

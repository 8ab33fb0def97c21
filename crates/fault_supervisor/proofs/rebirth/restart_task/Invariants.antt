use Rattle.std.proofs.Common.{◌*◌}
use Rattle.std.specs.Prelude.{fold}
use Rattle.std.specs.List.{range_with_len}
use Rattle.task_table.specs.model.State.{Setup, Turn}
use Rattle.task_table.specs.model.Effects.{dead_answered}
use Rattle.task_table.specs.kept.Holds.{Holds}
use Rattle.task_table.specs.kept.Frames.{AddsAtMost}
use Rattle.task_table.specs.kept.Waits.{AreFew}
use Rattle.fault_supervisor.proofs.rebirth.restart_task.Given as goal

-- so far the first tasks are answered
abbrev pub invariant-loop-other : goal.invariant-loop-other
invariant-loop-other l = record {
  frame : AddsAtMost l.initial.k (2 * l.other) l.k;
  holds : (g : Setup) (t : Turn) → Holds g l.initial.k t → AreFew t.state → Holds g l.k (fold (dead_answered l.task) t (range_with_len 0 l.other));
}

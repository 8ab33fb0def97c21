use Rattle.std.proofs.Common.{◌≡◌, ◌-◌, ◌≤◌, None}
use Rattle.std.specs.Prelude.{find}
use Rattle.std.specs.List.{range_with_len}
use Rattle.task_table.specs.model.State.{Setup, Turn}
use Rattle.task_table.specs.model.Reading.{task_at, is_faulted}
use Rattle.task_table.specs.kept.Holds.{Holds}
use Rattle.fault_supervisor.proofs.message.first_faulted.Given as goal

-- no task so far has faulted
abbrev pub invariant-loop-task : goal.invariant-loop-task
invariant-loop-task l = (l.index ≤ l.task) × ((g : Setup) (t : Turn) → Holds g l.k t → find (λ i. is_faulted (task_at t.state i).health) (range_with_len l.index (l.task - l.index)) ≡ None)

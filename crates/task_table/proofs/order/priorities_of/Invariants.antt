use Rattle.std.proofs.Common.{◌≡◌, map, take}
use Rattle.task_table.specs.kept.Parts.{task_setup}
use Rattle.task_table.specs.kept.Order.{priorities_of}
use Rattle.task_table.proofs.order.priorities_of.Given as goal

-- so far each number is that of its task
abbrev pub invariant-loop-task : goal.invariant-loop-task
invariant-loop-task l = l.priorities.items ≡ priorities_of (map task_setup (take l.task-index l.tasks))

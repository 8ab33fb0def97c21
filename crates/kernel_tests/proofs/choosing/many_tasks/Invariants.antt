use Rattle.std.proofs.Common.{◌≡◌, length, [], All}
use Rattle.task_table.specs.declared.start.TaskStart.{TaskStart}
use Rattle.kernel_tests.proofs.choosing.many_tasks.Given as goal

-- one for each number so far, and none has a region
abbrev pub invariant-loop-i : goal.invariant-loop-i
invariant-loop-i l = (length l.tasks.items ≡ l.i) × All (λ (x : TaskStart). x.regions.items ≡ []) l.tasks.items

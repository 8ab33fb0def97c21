use Rattle.std.proofs.Common.{◌≡◌, map, take}
use Rattle.task_table.specs.kept.Parts.{task_setup}
use Rattle.task_table.proofs.start.copies_of.Given as goal

-- so far each says the same
abbrev pub invariant-loop-task : goal.invariant-loop-task
invariant-loop-task l = map task_setup l.copies.items ≡ map task_setup (take l.task-index l.tasks)

use Rattle.std.proofs.Common.{◌≡◌, map, take}
use Rattle.task_table.specs.kept.Parts.{task_setup}
use Rattle.task_table.specs.model.Start.{born}
use Rattle.task_table.specs.kept.Holds.{packed_task}
use Rattle.task_table.specs.declared.slot.Wait.TheVariants.{Nothing}
use Rattle.task_table.proofs.start.first_slots.Given as goal

-- so far each is kept as it was born
abbrev pub invariant-loop-task : goal.invariant-loop-task
invariant-loop-task l = l.slots.items ≡ map (λ x. packed_task (born (task_setup x)) Nothing) (take l.task-index l.tasks)

use Rattle.std.proofs.Common.{◌≡◌, map, take}
use Rattle.image_format.specs.Images.{image_data}
use Rattle.task_table.specs.kept.Parts.{task_setup}
use Rattle.board_core.specs.Opened.{setup_of_task}
use Rattle.board_core.proofs.opening.task_starts.Given as goal

-- the tasks so far
abbrev pub invariant-loop-i : goal.invariant-loop-i
invariant-loop-i l = map task_setup l.tasks.items ≡ map setup_of_task (take l.i (image_data l.image).tasks)

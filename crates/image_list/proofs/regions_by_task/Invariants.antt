use Rattle.std.proofs.Common.{◌≡◌, take, map, vec_items}
use Rattle.image_format.specs.Images.{image_data}
use Rattle.image_list.proofs.regions_by_task.Given as goal

-- the tasks so far
abbrev pub invariant-loop-i : goal.invariant-loop-i
invariant-loop-i l = map vec_items l.tasks.items ≡ map (λ t. t.regions) (take l.i (image_data l.image).tasks)

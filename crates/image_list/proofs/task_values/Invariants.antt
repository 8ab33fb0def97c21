use Rattle.std.proofs.Common.{◌≡◌, take, map}
use Rattle.serde_json.specs.View.{view}
use Rattle.image_format.specs.Images.{image_data}
use Rattle.image_list.specs.Listing.{task_data}
use Rattle.image_list.proofs.task_values.Given as goal

-- the tasks so far
abbrev pub invariant-loop-i : goal.invariant-loop-i
invariant-loop-i l = map view l.values.items ≡ map task_data (take l.i (image_data l.image).tasks)

use Rattle.std.proofs.Common.{◌≡◌, map, take}
use Rattle.std.specs.Prelude.{vec_items}
use Rattle.image_format.specs.Images.{image_data}
use Rattle.image_format.specs.ImageData.{ImageTask}
use Rattle.snapshot.proofs.loading.regions.Given as goal

-- those of the tasks so far
abbrev pub invariant-loop-i : goal.invariant-loop-i
invariant-loop-i l = map vec_items l.regions.items ≡ map (λ (t : ImageTask). t.regions) (take l.i (image_data l.image).tasks)

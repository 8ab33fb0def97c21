use Rattle.std.proofs.Common.{◌≡◌, map, take}
use Rattle.image_format.specs.Images.{image_data}
use Rattle.image_format.specs.ImageData.{ImageLine}
use Rattle.snapshot.proofs.loading.owned.Given as goal

-- the lines so far
abbrev pub invariant-loop-k : goal.invariant-loop-k
invariant-loop-k l = l.lines.items ≡ map (λ (o : ImageLine). o.line) (take l.k (image_data l.image).lines)

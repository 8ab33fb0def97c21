use Rattle.std.proofs.Common.{◌≡◌, map, take}
use Rattle.image_format.specs.ImageData.{region_of}
use Rattle.image_format.proofs.views.regions_of.Given as goal

abbrev pub invariant-loop-r : goal.invariant-loop-r
invariant-loop-r l = l.regions.items ≡ map region_of (take l.r-index l.own)

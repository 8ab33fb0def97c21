use Rattle.std.proofs.Common.{◌≡◌, ◌+◌, ◌*◌, drop, take, length}
use Rattle.image_format.specs.Regions.{regions_fault, regions_from}
use Rattle.image_format.specs.Steps.{counted, regions_place}
use Rattle.image_format.proofs.regions.check_regions.Given as goal

abbrev pub invariant-loop-i : goal.invariant-loop-i
invariant-loop-i l = record {
  place : l.place ≡ regions_place l.h + 12 * l.start;
  left_over : l.start + counted (drop l.i l.tasks) ≡ length l.regions;
  left : regions_from l.h (take l.start l.regions) l.place (drop l.i l.tasks) (drop l.start l.regions) ≡ regions_fault l.h l.tasks l.regions;
}

use Rattle.std.proofs.Common.{◌≡◌, ◌≤◌, ◌+◌, ◌*◌, drop, length}
use Rattle.image_format.specs.Regions.{entries_fault, entries_from}
use Rattle.image_format.specs.Steps.{counted}
use Rattle.image_format.proofs.regions.check_entries.Given as goal

abbrev pub invariant-loop-i : goal.invariant-loop-i
invariant-loop-i l = record {
  place : l.place ≤ 28 + 12 * l.i;
  left_over : l.start + counted (drop l.i l.tasks) ≡ length l.regions;
  left : entries_from l.place (drop l.i l.tasks) (drop l.start l.regions) ≡ entries_fault l.h l.tasks l.regions;
}

use Rattle.std.proofs.Common.{◌≡◌, ◌≤◌, ◌-◌, ◌*◌, ◌++◌, length}
use Rattle.image_format.specs.Records.{regions_at}
use Rattle.image_format.proofs.parts.regions_of.Given as goal

abbrev pub invariant-loop-i : goal.invariant-loop-i
invariant-loop-i l = record {
  read : l.regions.items ++ regions_at (l.n - l.i) l.rest ≡ regions_at l.n l.bytes;
  len : length l.regions.items ≡ l.i;
  left : 12 * (l.n - l.i) ≤ length l.rest;
}

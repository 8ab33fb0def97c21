use Rattle.std.proofs.Common.{◌≡◌, ◌≤◌, ◌-◌, ◌*◌, ◌++◌, length}
use Rattle.image_format.specs.Records.{lines_at}
use Rattle.image_format.proofs.parts.lines_of.Given as goal

abbrev pub invariant-loop-i : goal.invariant-loop-i
invariant-loop-i l = record {
  read : l.lines.items ++ lines_at l.form (l.n - l.i) l.rest ≡ lines_at l.form l.n l.bytes;
  len : length l.lines.items ≡ l.i;
  left : 8 * (l.n - l.i) ≤ length l.rest;
}

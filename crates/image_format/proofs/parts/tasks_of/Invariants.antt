use Rattle.std.proofs.Common.{◌≡◌, ◌≤◌, ◌-◌, ◌*◌, ◌++◌, length}
use Rattle.image_format.specs.Records.{tasks_at}
use Rattle.image_format.proofs.parts.tasks_of.Given as goal

abbrev pub invariant-loop-i : goal.invariant-loop-i
invariant-loop-i l = record {
  read : l.tasks.items ++ tasks_at (l.n - l.i) l.rest ≡ tasks_at l.n l.bytes;
  len : length l.tasks.items ≡ l.i;
  left : 12 * (l.n - l.i) ≤ length l.rest;
}

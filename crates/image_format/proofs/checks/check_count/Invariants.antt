use Rattle.std.proofs.Common.{◌≡◌, ◌*◌, ◌≤◌, take}
use Rattle.image_format.specs.Steps.{counted}
use Rattle.image_format.proofs.checks.check_count.Given as goal

abbrev pub invariant-loop-t : goal.invariant-loop-t
invariant-loop-t l = record {
  sum : l.sum ≡ counted (take l.t-index l.tasks);
  small : l.sum ≤ 255 * l.t-index;
}

use Rattle.std.proofs.Common.{◌≡◌, ◌*◌, ◌≤◌, take}
use Rattle.image_format.specs.Steps.{counted}
use Rattle.image_format.proofs.line_devices.counted.Given as goal

abbrev pub invariant-loop-i : goal.invariant-loop-i
invariant-loop-i l = record {
  sum : l.sum ≡ counted (take l.i l.tasks);
  small : l.sum ≤ 255 * l.i;
}

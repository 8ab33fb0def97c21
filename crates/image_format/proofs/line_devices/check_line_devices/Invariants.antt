use Rattle.std.proofs.Common.{◌≡◌, ◌+◌, ◌*◌, drop}
use Rattle.image_format.specs.Regions.{line_devices_fault, line_devices_from}
use Rattle.image_format.specs.Steps.{lines_place}
use Rattle.image_format.proofs.line_devices.check_line_devices.Given as goal

abbrev pub invariant-loop-i : goal.invariant-loop-i
invariant-loop-i l = record {
  place : l.place ≡ lines_place l.h + 8 * l.i;
  left : line_devices_from l.tasks l.regions l.place (drop l.i l.lines) ≡ line_devices_fault l.h l.tasks l.regions l.lines;
}

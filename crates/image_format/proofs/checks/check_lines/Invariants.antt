use Rattle.std.proofs.Common.{◌≡◌, ◌+◌, ◌*◌, drop}
use Rattle.image_format.specs.Steps.{lines_fault, lines_from, lines_place}
use Rattle.image_format.proofs.checks.check_lines.Given as goal

abbrev pub invariant-loop-i : goal.invariant-loop-i
invariant-loop-i l = record {
  place : l.place ≡ lines_place l.h + 8 * l.i;
  left : lines_from l.form l.least l.h.tasks l.place (drop l.i l.lines) ≡ lines_fault l.h l.lines;
}

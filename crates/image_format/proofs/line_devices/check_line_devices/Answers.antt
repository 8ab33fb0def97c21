use Rattle.std.proofs.Common.{arith}
use Rattle.image_format.specs.Steps.{lines_place}
use Rattle.image_format.proofs.Chunks.{blank_line}
use Rattle.image_format.proofs.Shape.{are_lines}
use Rattle.image_format.proofs.line_devices.check_line_devices.Goals as goal

pub check_line_device-found-requires-clause-owner : goal.check_line_device-found-requires-clause-owner
check_line_device-found-requires-clause-owner c =
    let h = c.args.h.now in
    let line = are_lines h.form 0 h.tasks (lines_place h) c.args.lines.now c.requires.each c.loop-i.i blank_line c.loop-i-test.true in
    omega (arith, line.owner, c.requires.tasks)

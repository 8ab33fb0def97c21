use Rattle.std.proofs.Common.{◌-◌}
use Rattle.board_core.specs.Stands.{turns_of}
use Rattle.board_model.specs.Run.{turn_after}
use Rattle.kernel_tests.proofs.board.advance.Goals as goal

pub returns-clause-stood : goal.returns-clause-stood
returns-clause-stood boxes c =
    let x = c.requires.stood.0 in
    let s = c.requires.stood.1 in
    let n = turns_of c.advance.new.self - turns_of c.args.board.now - 1 in
    (x, (turn_after c.args.level x n s).state, (c.advance.ensures.advanced x s c.requires.stood.2).stands)

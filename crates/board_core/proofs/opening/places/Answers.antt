use Rattle.std.proofs.Common.{arith}
use Rattle.board_core.proofs.opening.places.Goals as goal

pub returns-clause-all : goal.returns-clause-all
returns-clause-all c = λ i r lt here none. c.loop-i.invariant.all i r (omega (arith, lt, c.loop-i-test.false, c.task_count-i-end.ensures)) here none

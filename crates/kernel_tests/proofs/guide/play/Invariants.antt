use Rattle.std.proofs.Common.{◌-◌}
use Rattle.board_core.specs.Data.{boxed}
use Rattle.board_core.specs.Stands.{StandsForSome, turns_of}
use Rattle.kernel_tests.proofs.guide.play.Given as goal

abbrev pub invariant-turns : goal.invariant-turns
invariant-turns g l = StandsForSome (boxed (λ p. (goal.Device-dyn g p).shown p.1)) l.board

abbrev pub decreases-turns : goal.decreases-turns
decreases-turns g l = 1000 - turns_of l.board

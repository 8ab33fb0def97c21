use Rattle.board_core.specs.Data.{boxed}
use Rattle.board_core.proofs.fast.Polled.{HaveBeen}
use Rattle.board_core.proofs.fast_path.poller.Poller.run.Given as goal

abbrev pub invariant-on : goal.invariant-on
invariant-on boxes l = HaveBeen (boxed (λ p. (goal.Device-dyn boxes p).shown p.1)) l.fn.self l.most l.left l.places l.self

abbrev pub decreases-on : goal.decreases-on
decreases-on boxes l = l.left

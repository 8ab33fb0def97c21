use Rattle.board_run.proofs.Fitted.{passed_on}
use Rattle.board_run.proofs.observer.AnyObserver.pass_on.Goals as goal

pub returns : goal.returns
returns g c = passed_on _ _ _ _ c.flush.result c.flush.ensures.written c.flush.ensures.cause

use Rattle.board_run.proofs.Fitted.{breaks_after, hears_joined}
use Rattle.board_run.proofs.observer.AnyObserver.hears_in_parts.Goals as goal

pub returns-clause-parts : goal.returns-clause-parts
returns-clause-parts g c = λ t u v a b h k. hears_joined _ _ _ _ _ _ a b h k

pub returns-clause-fails : goal.returns-clause-fails
returns-clause-fails g c = λ t u v a b h k. breaks_after _ _ _ _ _ _ a b h k

use Rattle.outside_io.proofs.Pushing.{pushes_kept}
use Rattle.debug_core.specs.Answers.{refusal_line}
use Rattle.debug_core.proofs.live.refuse.Goals as goal

pub returns-clause-told : goal.returns-clause-told
returns-clause-told g c = pushes_kept _ _ _ (refusal_line c.args.cause) c.flush.result c.in_ok-push_refused.ensures.bytes c.flush.ensures.written

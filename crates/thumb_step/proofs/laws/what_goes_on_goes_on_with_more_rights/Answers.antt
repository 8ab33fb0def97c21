use Rattle.thumb_step.proofs.Widening.{step_wider}
use Rattle.thumb_step.proofs.laws.what_goes_on_goes_on_with_more_rights.Goals as goal

pub returns : goal.returns
returns c = step_wider

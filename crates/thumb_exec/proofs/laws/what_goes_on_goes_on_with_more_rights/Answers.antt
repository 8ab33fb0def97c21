use Rattle.thumb_exec.proofs.Widening.{effect_wider}
use Rattle.thumb_exec.proofs.laws.what_goes_on_goes_on_with_more_rights.Goals as goal

pub returns : goal.returns
returns c = effect_wider

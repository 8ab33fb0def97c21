use Rattle.sample_gen.proofs.Made.{accepted}
use Rattle.sample_gen.proofs.app_is_accepted.Goals as goal

pub returns : goal.returns
returns c = accepted

use Rattle.thumb_exec.proofs.Agreeing.{effect_same}
use Rattle.thumb_exec.proofs.laws.every_effect_reads_what_it_may.Goals as goal

pub returns : goal.returns
returns c = effect_same

use Rattle.thumb_exec.proofs.Keeping.{keeps}
use Rattle.thumb_exec.proofs.laws.every_effect_keeps.Goals as goal

pub returns : goal.returns
returns c = keeps

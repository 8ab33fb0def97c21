use Rattle.std.proofs.Common.{arith}
use Rattle.std.proofs.lemmas.Grind.{common_steps}
use Rattle.image_format.proofs.writing.push_lines.Goals as goal

pub loop-l-preserved : goal.loop-l-preserved
loop-l-preserved c = grind (arith, common_steps)

pub returns : goal.returns
returns c = grind (arith, common_steps)

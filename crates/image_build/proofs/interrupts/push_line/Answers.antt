use Rattle.std.proofs.Common.{arith}
use Rattle.std.proofs.lemmas.Grind.{common_steps}
use Rattle.image_build.proofs.interrupts.push_line.Goals as goal

pub loop-interrupt-preserved : goal.loop-interrupt-preserved
loop-interrupt-preserved c = grind (arith, common_steps)

pub returns : goal.returns
returns c = grind (arith, common_steps)

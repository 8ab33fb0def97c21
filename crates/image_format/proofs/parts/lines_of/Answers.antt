use Rattle.std.proofs.Common.{arith}
use Rattle.std.proofs.lemmas.Grind.{common_steps}
use Rattle.image_format.proofs.Steps.{lines_more}
use Rattle.image_format.proofs.parts.lines_of.Goals as goal

pub loop-i-preserved : goal.loop-i-preserved
loop-i-preserved c = record {
  read = grind (arith, lines_more);
  len = omega (arith, c.in_ok-push.ensures.len);
  left = omega arith;
}

pub returns-clause-items : goal.returns-clause-items
returns-clause-items c = grind (arith, common_steps)

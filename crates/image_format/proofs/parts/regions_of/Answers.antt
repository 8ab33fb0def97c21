use Rattle.std.proofs.Common.{arith}
use Rattle.std.proofs.lemmas.Grind.{common_steps}
use Rattle.image_format.proofs.Steps.{regions_more}
use Rattle.image_format.proofs.parts.regions_of.Goals as goal

pub loop-i-preserved : goal.loop-i-preserved
loop-i-preserved c = record {
  read = grind (arith, regions_more);
  len = omega (arith, c.in_ok-push.ensures.len);
  left = omega arith;
}

pub returns-clause-items : goal.returns-clause-items
returns-clause-items c = grind (arith, common_steps)

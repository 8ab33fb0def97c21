use Rattle.std.proofs.Common.{arith}
use Rattle.sample_gen.specs.Draws.{next}
use Rattle.sample_gen.proofs.numbers.Numbers.draw.Goals as goal

pub returns-clause-next : goal.returns-clause-next
unfolding next
returns-clause-next c = omega arith

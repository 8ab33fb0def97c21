use Rattle.std.proofs.Common.{arith}
use Rattle.task_table.specs.model.Reading.{present_id}
use Rattle.task_table.proofs.kernel.Kernel.id.Goals as goal

pub returns : goal.returns
unfolding present_id
returns c = λ g t h. omega (arith, c.new.ensures, c.generation.ensures g t h)

use Rattle.std.proofs.Common.{arith}
use Rattle.command_line.specs.CommandLine.{most_steps}
use Rattle.command_line.proofs.job.turns_in.Goals as goal

pub returns-clause-number : goal.returns-clause-number
returns-clause-number c = c.number_of.ensures.number most_steps (omega arith)

pub returns-clause-few : goal.returns-clause-few
returns-clause-few c = c.number_of.ensures.few most_steps (omega arith)

use Rattle.std.proofs.Common.{arith}
use Rattle.command_line.specs.CommandLine.{most_seed}
use Rattle.command_line.proofs.job.seed_in.Goals as goal

pub returns : goal.returns
returns c = c.number_of.ensures.number most_seed (omega arith)

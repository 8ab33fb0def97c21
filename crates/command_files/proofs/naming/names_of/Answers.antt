use Rattle.std.proofs.Common.{arith}
use Rattle.std.proofs.lemmas.Grind.{common_steps}
use Rattle.command_files.proofs.naming.names_of.Goals as goal

pub loop-task-preserved : goal.loop-task-preserved
loop-task-preserved c = record { is = grind (arith, common_steps); many = grind (arith, common_steps) }

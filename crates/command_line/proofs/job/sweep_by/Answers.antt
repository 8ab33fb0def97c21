use Rattle.std.proofs.Math.Nat.{max-le}
use Rattle.command_line.proofs.job.sweep_by.Goals as goal

pub returns-clause-few : goal.returns-clause-few
returns-clause-few c = λ are. max-le (max-le (c.turns_in.ensures.few are.from) (c.turns_in-2.ensures.few are.to)) (c.steps_in.ensures.few are.steps)

use Rattle.std.proofs.Common.{◌∙◌}
use Rattle.task_table.proofs.kept.Births.{to_kept}
use Rattle.task_table.proofs.kernel.Kernel.calls_to.Goals as goal

pub returns : goal.returns
returns c = λ g t h few. c.is_to.ensures ∙ to_kept t.state c.args.task c.args.other _ few (c.slot-slot.ensures g t h)

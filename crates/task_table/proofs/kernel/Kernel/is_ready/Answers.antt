use Rattle.std.proofs.Common.{◌∙◌}
use Rattle.task_table.proofs.kept.Steps as steps
use Rattle.task_table.proofs.kernel.Kernel.is_ready.Goals as goal

pub returns : goal.returns
returns c = λ g t h. c.is_ready.ensures ∙ steps.free_kept t.state c.args.task _ (c.slot-slot.ensures g t h)

use Rattle.std.proofs.Common.{sym, subst}
use Rattle.task_table.specs.kept.Holds.{IsKept}
use Rattle.task_table.proofs.kernel.Kernel.slot.Goals as goal

pub returns : goal.returns
returns c = λ g t h. subst (λ o. IsKept t.state c.args.task o) (sym c.index.ensures) (h.tasks c.args.task c.requires c.index.result.now)

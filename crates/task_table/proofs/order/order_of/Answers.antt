use Rattle.std.proofs.Common.{◌∙◌, ap, length, arith}
use Rattle.task_table.proofs.kept.Ordered.{as_many_priorities}
use Rattle.task_table.proofs.order.order_of.Goals as goal

pub of-requires : goal.of-requires
of-requires c = omega (arith, c.requires, ap length (c.deref.ensures.value ∙ c.in_ok-priorities.ensures), as_many_priorities c.args.tasks.now)

pub returns : goal.returns
returns c = rw (c.deref.ensures.value ∙ c.in_ok-priorities.ensures) at c.of.ensures

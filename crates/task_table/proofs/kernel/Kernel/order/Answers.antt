use Rattle.std.proofs.Common.{◌∙◌, arith}
use Rattle.task_table.proofs.kept.Members.{kernel_ordered}
use Rattle.task_table.proofs.kept.Ordered.{as_many_priorities}
use Rattle.task_table.proofs.kernel.Kernel.order.Goals as goal

pub returns-clause-few : goal.returns-clause-few
returns-clause-few c =
    let k = c.args.self.now in
    omega (arith, k.order_is.key_count, as_many_priorities k.tasks.items, k.many, k.few)

pub returns-clause-there : goal.returns-clause-there
returns-clause-there c =
    let k = c.args.self.now in
    k.order_is.key_count ∙ as_many_priorities k.tasks.items ∙ k.many

pub returns-clause-holds : goal.returns-clause-holds
returns-clause-holds c = λ g t h. kernel_ordered g c.args.self.now t h

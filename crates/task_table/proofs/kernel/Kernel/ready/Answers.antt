use Rattle.std.proofs.Common.{subst}
use Rattle.task_table.specs.model.State.{Setup}
use Rattle.task_table.specs.kept.Order.{AreOrdered, priorities_of}
use Rattle.task_table.specs.kept.Holds.{kept_of}
use Rattle.task_table.specs.kept.Readiness.{is_free}
use Rattle.task_table.proofs.kept.Members.{those_there, ready_kept}
use Rattle.task_table.proofs.kernel.Kernel.ready.Goals as goal

pub returns-clause-there : goal.returns-clause-there
returns-clause-there c = λ p is.
    let k = c.args.self.now in
    those_there is_free k.slots.items k.order.places.items k.ready.words p k.ready_now is

pub returns-clause-holds : goal.returns-clause-holds
returns-clause-holds c = λ g t h.
    let k = c.args.self.now in
    record {
      ordered = subst (λ (x : Setup). AreOrdered (priorities_of x.tasks) k.order.keys.items k.order.places.items) h.setup k.order_is;
      each = λ i there. ready_kept g (kept_of k) t k.order.places.items k.ready.words h k.ready_now i there;
    }

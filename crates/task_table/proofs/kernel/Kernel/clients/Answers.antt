use Rattle.std.proofs.Common.{◌<◌, ◌≤◌, length, arith, sym, subst}
use Rattle.task_table.specs.model.State.{Setup}
use Rattle.task_table.specs.kept.Order.{AreOrdered, priorities_of}
use Rattle.task_table.specs.kept.Holds.{kept_of}
use Rattle.task_table.specs.kept.Readiness.{is_client_of, AreThose}
use Rattle.task_table.specs.declared.task_set.TaskSet.{TaskSet}
use Rattle.task_table.proofs.kept.Members.{those_there, offers_kept}
use Rattle.task_table.proofs.kernel.Kernel.clients.Goals as goal

clients_are : (c : goal.After-index) → AreThose (is_client_of c.args.server) c.args.self.now.slots.items c.args.self.now.order.places.items c.index.result.now.words
clients_are c =
    let k = c.args.self.now in
    let inside : c.args.server < length k.offers.items = omega (arith, c.requires, k.offered_now.count) in
    subst (λ (x : TaskSet). AreThose (is_client_of c.args.server) k.slots.items k.order.places.items x.words) (sym c.index.ensures) (k.offered_now.each c.args.server inside c.index.result.now)

pub returns-clause-there : goal.returns-clause-there
returns-clause-there c = λ p is.
    let k = c.args.self.now in
    those_there (is_client_of c.args.server) k.slots.items k.order.places.items c.index.result.now.words p (clients_are c) is

pub returns-clause-stands : goal.returns-clause-stands
returns-clause-stands c = λ g t h.
    let k = c.args.self.now in
    let small : length k.slots.items ≤ 1024 = omega (arith, k.few) in
    record {
      ordered = subst (λ (x : Setup). AreOrdered (priorities_of x.tasks) k.order.keys.items k.order.places.items) h.holds.setup k.order_is;
      each = λ i there. offers_kept g (kept_of k) t c.args.server k.order.places.items c.index.result.now.words h.holds h.sane small (clients_are c) i there;
    }

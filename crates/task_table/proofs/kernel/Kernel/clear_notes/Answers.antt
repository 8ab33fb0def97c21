use Rattle.std.proofs.Common.{arith}
use Rattle.task_table.specs.kept.Holds.{kept_of}
use Rattle.task_table.proofs.kept.Steps as steps
use Rattle.task_table.proofs.kernel.Kernel.clear_notes.Goals as goal

pub returns-clause-holds : goal.returns-clause-holds
returns-clause-holds c = λ g t h. steps.holds_begun g (kept_of c.args.self.now) t _ h c.clear.ensures.items

pub invariant_of-self : goal.invariant_of-self
invariant_of-self c =
    let k = c.args.self.now in
    record { few = k.few; all_lines = k.all_lines; few_owners = k.few_owners; many = k.many; there = k.there; order_is = k.order_is; ready_now = k.ready_now; offered_now = k.offered_now; timed_now = k.timed_now; openable = k.openable; fresh = k.fresh; of_calls = k.of_calls; room = omega (arith, c.clear.ensures.capacity, k.room) }

use Rattle.std.proofs.Common.{arith}
use Rattle.task_table.specs.kept.Holds.{kept_of}
use Rattle.task_table.proofs.kept.Steps as steps
use Rattle.task_table.proofs.kernel.Kernel.note.Goals as goal

pub returns-clause-holds : goal.returns-clause-holds
returns-clause-holds c = λ g t h. steps.holds_noted g (kept_of c.args.self.now) t c.args.note _ h c.push_reserved.ensures.items

pub invariant_of-self : goal.invariant_of-self
invariant_of-self c =
    let k = c.args.self.now in
    record { few = k.few; all_lines = k.all_lines; few_owners = k.few_owners; many = k.many; there = k.there; order_is = k.order_is; ready_now = k.ready_now; offered_now = k.offered_now; timed_now = k.timed_now; openable = k.openable; fresh = k.fresh; of_calls = k.of_calls; room = omega (arith, c.push_reserved.ensures.capacity, k.room) }

pub push_reserved-requires : goal.push_reserved-requires
push_reserved-requires c = omega (arith, c.requires, c.args.self.now.room, c.args.self.now.notes.ok.0)

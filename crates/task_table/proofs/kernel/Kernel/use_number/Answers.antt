use Rattle.std.proofs.Common.{refl, arith}
use Rattle.task_table.specs.kept.Holds.{kept_of}
use Rattle.task_table.proofs.kept.Steps.{holds_next_call}
use Rattle.task_table.proofs.kernel.Kernel.use_number.Goals as goal

pub returns-clause-holds : goal.returns-clause-holds
returns-clause-holds c = λ g t h. holds_next_call g (kept_of c.args.self.now) t h

pub returns-clause-frame : goal.returns-clause-frame
returns-clause-frame c = record { notes = omega arith; tasks = refl; setup = refl }

pub invariant_of-self : goal.invariant_of-self
invariant_of-self c =
    let k = c.args.self.now in
    record { few = k.few; all_lines = k.all_lines; few_owners = k.few_owners; many = k.many; there = k.there; order_is = k.order_is; ready_now = k.ready_now; offered_now = k.offered_now; timed_now = k.timed_now; openable = k.openable; fresh = k.fresh; of_calls = k.of_calls; room = k.room }

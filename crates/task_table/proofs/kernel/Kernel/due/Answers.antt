use Rattle.std.proofs.Common.{◌≡◌, ◌<◌, ◌%◌, length, arith, sym, subst, true}
use Rattle.task_table.specs.kept.Limits.{wheel_sets}
use Rattle.task_table.specs.kept.TaskSets.{has}
use Rattle.task_table.specs.kept.Deadlines.{HasDue}
use Rattle.task_table.specs.kept.Holds.{kept_of}
use Rattle.task_table.specs.declared.task_set.TaskSet.{TaskSet}
use Rattle.task_table.proofs.kept.Deadlines.{timed_there, due_kept}
use Rattle.task_table.proofs.kernel.Kernel.due.Goals as goal

pub returns-clause-there : goal.returns-clause-there
returns-clause-there c = λ i is.
    let k = c.args.self.now in
    let inside : k.clock % wheel_sets < length k.wheel.items = omega (arith, k.timed_now.count) in
    let member = subst (λ (x : TaskSet). has x.words i ≡ true) c.index.ensures is in
    timed_there k.slots.items k.wheel.items (k.clock % wheel_sets) c.index.result.now i k.timed_now inside member

pub returns-clause-holds : goal.returns-clause-holds
returns-clause-holds c = λ g t h.
    let k = c.args.self.now in
    subst (λ (x : TaskSet). HasDue t.state x.words) (sym c.index.ensures) (due_kept g (kept_of k) t k.wheel.items c.index.result.now h k.timed_now)

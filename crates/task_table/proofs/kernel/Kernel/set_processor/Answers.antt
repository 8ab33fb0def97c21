use Rattle.std.proofs.Common.{◌<◌, ap, arith, length, refl}
use Rattle.task_table.specs.model.State.{Task}
use Rattle.task_table.specs.model.Reading.{task_at}
use Rattle.task_table.specs.declared.slot.Slot.{Slot}
use Rattle.task_table.proofs.kept.Steps as steps
use Rattle.task_table.specs.model.Effects.{with_processor}
use Rattle.task_table.proofs.model.Changes.{same_but-with_task, waits_alike, timers_alike}
use Rattle.task_table.proofs.kernel.Kernel.set_processor.Goals as goal

pub returns-clause-holds : goal.returns-clause-holds
unfolding with_processor
returns-clause-holds c = λ g t h.
    let kept = c.slot-slot.ensures g t h in
    let x : Task = record (task_at t.state c.args.task) { registers = c.args.registers; flags = c.args.flags } in
    let there : c.args.task < length t.state.tasks = omega (arith, h.count) in
    c.set_rest.ensures.holds g t _ h (steps.kept_task t.state c.args.task x _ _ there kept (ap (λ (o : Slot). record o { registers = c.args.registers; flags = c.args.flags }) kept.is)) (same_but-with_task t.state c.args.task x, waits_alike t.state c.args.task x there refl, timers_alike t.state c.args.task x there refl)

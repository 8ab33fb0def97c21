use Rattle.std.proofs.Common.{◌<◌, ℕ, List, ap, arith, length, ◌∙◌, refl}
use Rattle.task_table.specs.model.State.{Task}
use Rattle.task_table.specs.model.Reading.{task_at}
use Rattle.task_table.specs.declared.slot.Slot.{Slot}
use Rattle.task_table.proofs.kept.Steps as steps
use Rattle.task_table.proofs.model.Changes.{same_but-with_task, waits_alike, timers_alike}
use Rattle.task_table.specs.model.Effects.{given, with_results}
use Rattle.task_table.proofs.kernel.Kernel.give.Goals as goal

pub returns-clause-holds : goal.returns-clause-holds
unfolding given
returns-clause-holds c = λ g t h.
    let kept = c.slot-slot.ensures g t h in
    let task = task_at t.state c.args.task in
    let x : Task = record task { registers = with_results c.args.values.now task.registers } in
    let there : c.args.task < length t.state.tasks = omega (arith, h.count) in
    let written = ap (λ (rs : List ℕ). record c.slot-slot.result { registers = rs }) c.write_results.ensures in
    let is = written ∙ ap (λ (o : Slot). record o { registers = with_results c.args.values.now o.registers }) kept.is in
    c.set_rest.ensures.holds g t _ h (steps.kept_task t.state c.args.task x _ _ there kept is) (same_but-with_task t.state c.args.task x, waits_alike t.state c.args.task x there refl, timers_alike t.state c.args.task x there refl)

use Rattle.std.proofs.Common.{◌≡◌, ◌<◌, ap, bit_or, arith, length, refl}
use Rattle.task_table.specs.model.State.{Task}
use Rattle.task_table.specs.model.Reading.{task_at}
use Rattle.task_table.specs.declared.slot.Slot.{Slot}
use Rattle.task_table.proofs.kept.Steps as steps
use Rattle.task_table.proofs.model.Changes.{same_but-with_task, waits_alike, timers_alike}
use Rattle.task_table.specs.model.Effects.{bits_added}
use Rattle.task_table.proofs.kernel.Kernel.add_bits.Goals as goal

pub returns-clause-holds : goal.returns-clause-holds
unfolding bits_added
returns-clause-holds c = λ g t h.
    let kept = c.slot-slot.ensures g t h in
    let task = task_at t.state c.args.task in
    let x : Task = record task { posted = bit_or task.posted c.args.bits } in
    let there : c.args.task < length t.state.tasks = omega (arith, h.count) in
    let bits : c.slot-slot.result.posted ≡ task.posted = ap (λ (o : Slot). o.posted) kept.is in
    let is = ap (λ (o : Slot). record o { posted = bit_or o.posted c.args.bits }) kept.is in
    let next = c.set_rest.ensures.holds g t _ h (steps.kept_task t.state c.args.task x _ _ there kept is) (same_but-with_task t.state c.args.task x, waits_alike t.state c.args.task x there refl, timers_alike t.state c.args.task x there refl) in
    rw bits at (c.note.ensures.holds g _ next)

use Rattle.std.proofs.Common.{◌≡◌, ap}
use Rattle.task_table.specs.model.Reading.{task_at}
use Rattle.task_table.specs.declared.slot.Slot.{Slot}
use Rattle.task_table.specs.model.Effects.{returned}
use Rattle.task_table.proofs.kernel.Kernel.note_return.Goals as goal

pub returns-clause-holds : goal.returns-clause-holds
unfolding returned
returns-clause-holds c = λ g t h.
    let kept = c.slot-slot.ensures g t h in
    let registers : c.slot-slot.result.registers ≡ (task_at t.state c.args.task).registers = ap (λ (o : Slot). o.registers) kept.is in
    rw registers at (rw c.results_in-results.ensures at (c.note.ensures.holds g t h))

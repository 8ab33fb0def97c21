use Rattle.std.proofs.Common.{refl, sym, ◌∙◌, subst}
use Rattle.task_table.specs.model.State.{State}
use Rattle.task_table.specs.kept.Setting.{with_slot}
use Rattle.task_table.specs.declared.slot.Slot.{Slot}
use Rattle.task_table.specs.kept.Holds.{Holds as KernelHolds}
use Rattle.task_table.specs.model.Effects.{changed}
use Rattle.board_core.specs.Setting.{slot_told}
use Rattle.board_core.proofs.Turning.{rested}
use Rattle.board_core.proofs.Told.{holds_told, turn-with_slot, devices-with_slot}
use Rattle.board_core.proofs.board.Board.set_task.Goals as goal

pub set_task-requires-clause-told : goal.set_task-requires-clause-told
set_task-requires-clause-told boxes c = rw c.slot.ensures c.requires.told

pub returns-clause-holds : goal.returns-clause-holds
returns-clause-holds boxes c = λ x s h.
    let b = c.args.self.now in
    let i = c.args.i in
    let told = slot_told c.args.v.now in
    let u : State = with_slot i told s in
    let saved = c.save_context.ensures.holds x.setup (rested b.machine s) h.machine in
    let K : Slot → Type 0 = λ slot. KernelHolds x.setup c.set_task.new.self (changed (with_slot i slot) (rested b.machine s)) in
    let kernel : KernelHolds x.setup c.set_task.new.self (rested b.machine u) = subst K c.slot.ensures (c.set_task.ensures.holds x.setup (rested b.machine s) saved.kernel) in
    holds_told _ x x s u b _ h refl (turn-with_slot i told s) record { kernel = kernel; devices = saved.devices ∙ sym (devices-with_slot i told s) } c.save_context.ensures.unloaded (c.choice_of-self.ensures x.setup (rested b.machine u) kernel) refl refl refl h.io_regions

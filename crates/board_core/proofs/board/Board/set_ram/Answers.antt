use Rattle.std.proofs.Common.{refl, ◌∙◌, sym, ap, length}
use Rattle.mem_banks.specs.Memory.{Memory}
use Rattle.task_table.specs.model.State.{State}
use Rattle.board_core.proofs.Turning.{rested}
use Rattle.board_core.proofs.Told.{holds_told, choice_stays}
use Rattle.board_core.proofs.board.Board.set_ram.Goals as goal

pub set_ram-requires : goal.set_ram-requires
set_ram-requires boxes c =
    let x = c.requires.0 in
    let s = c.requires.1 in
    let saved = c.save_context.ensures.holds x.setup (rested c.args.self.now.machine s) c.requires.2.machine in
    c.requires.3 ∙ ap (λ (m : Memory). length m.ram) (sym saved.kernel.memory)

pub returns-clause-holds : goal.returns-clause-holds
returns-clause-holds boxes c = λ x s h.
    let b = c.args.self.now in
    let u : State = record s { memory = record s.memory { ram = c.args.bytes.now } } in
    let saved = c.save_context.ensures.holds x.setup (rested b.machine s) h.machine in
    let kernel = c.set_ram.ensures.holds x.setup (rested b.machine s) saved.kernel in
    holds_told _ x x s u b _ h refl refl record { kernel = kernel; devices = saved.devices } c.save_context.ensures.unloaded (choice_stays x.setup s b.choice x.setup.flash u.memory u.turn u.now u.next_call u.lines h.choice) refl refl refl h.io_regions

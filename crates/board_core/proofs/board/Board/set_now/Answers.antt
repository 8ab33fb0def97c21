use Rattle.std.proofs.Common.{refl}
use Rattle.task_table.specs.model.State.{State}
use Rattle.board_core.proofs.Turning.{rested}
use Rattle.board_core.proofs.Told.{holds_told, choice_stays}
use Rattle.board_core.proofs.board.Board.set_now.Goals as goal

pub returns-clause-holds : goal.returns-clause-holds
returns-clause-holds boxes c = λ x s h.
    let b = c.args.self.now in
    let u : State = record s { now = c.args.v } in
    let saved = c.save_context.ensures.holds x.setup (rested b.machine s) h.machine in
    let kernel = c.set_now.ensures.holds x.setup (rested b.machine s) saved.kernel in
    holds_told _ x x s u b _ h refl refl record { kernel = kernel; devices = saved.devices } c.save_context.ensures.unloaded (choice_stays x.setup s b.choice x.setup.flash u.memory u.turn u.now u.next_call u.lines h.choice) refl refl refl h.io_regions

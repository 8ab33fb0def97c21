use Rattle.std.proofs.Common.{refl, ◌∷◌, [], subst, List, ℕ}
use Rattle.mem_banks.specs.Memory.{with_bytes}
use Rattle.task_table.specs.model.State.{State}
use Rattle.task_table.specs.kept.Holds.{Holds as KernelHolds}
use Rattle.board_model.specs.Script.{Scenario}
use Rattle.board_core.specs.Setting.{with_flash}
use Rattle.board_core.proofs.Turning.{rested}
use Rattle.board_core.proofs.Told.{holds_told, choice_stays, flash_set, flash_stays, same_flash}
use Rattle.board_core.proofs.board.Board.set_byte.Goals as goal

pub set_byte-requires : goal.set_byte-requires
set_byte-requires boxes c =
    let x = c.requires.0 in
    let s = c.requires.1 in
    let saved = c.save_context.ensures.holds x.setup (rested c.args.self.now.machine s) c.requires.2.machine in
    rw saved.kernel.memory c.requires.3

pub returns-clause-holds : goal.returns-clause-holds
returns-clause-holds boxes c = λ x s h.
    let b = c.args.self.now in
    let bytes = c.args.v ∷ [] in
    let u : State = record s { memory = with_bytes s.memory c.args.addr bytes } in
    let y : Scenario = with_flash u.memory.flash x in
    let saved = c.save_context.ensures.holds x.setup (rested b.machine s) h.machine in
    let K : List ℕ → Type 0 = λ flash. KernelHolds (with_flash flash x).setup c.set_byte.new.self (rested b.machine u) in
    let flash = flash_set x.setup c.save_context.new.self.space.kernel c.set_byte.new.self (rested b.machine s) c.args.addr bytes saved.kernel c.set_byte.ensures.memory in
    let kernel : KernelHolds y.setup c.set_byte.new.self (rested b.machine u) = subst K flash (c.set_byte.ensures.holds x.setup (rested b.machine s) saved.kernel) in
    holds_told _ x y s u b _ h refl refl record { kernel = kernel; devices = saved.devices } c.save_context.ensures.unloaded (choice_stays x.setup s b.choice u.memory.flash u.memory u.turn u.now u.next_call u.lines h.choice) refl refl refl record { count = h.io_regions.count; each = h.io_regions.each }

pub returns-clause-ram : goal.returns-clause-ram
returns-clause-ram boxes c = λ high x s h.
    let b = c.args.self.now in
    let bytes = c.args.v ∷ [] in
    let u : State = record s { memory = with_bytes s.memory c.args.addr bytes } in
    let saved = c.save_context.ensures.holds x.setup (rested b.machine s) h.machine in
    let flash = flash_stays x.setup c.save_context.new.self.space.kernel (rested b.machine s) c.args.addr bytes saved.kernel high in
    same_flash _ x _ u u.memory.flash flash (returns-clause-holds boxes c x s h)

use Rattle.std.proofs.Common.{◌<◌, List, length, ap, subst, refl, sym, ◌∙◌}
use Rattle.kernel_abi.specs.Devices.{DeviceData, device_at, with_device, IsSettable}
use Rattle.task_table.specs.model.State.{State}
use Rattle.task_table.specs.model.Effects.{with_devices}
use Rattle.task_table.specs.kept.Holds.{kept_of}
use Rattle.board_core.proofs.Turning.{rested}
use Rattle.board_core.proofs.Reaching.{holds_devices}
use Rattle.board_core.proofs.Told.{holds_told, choice_of_devices}
use Rattle.board_core.proofs.board.Board.set_device.Goals as goal

pub set-requires-clause-there : goal.set-requires-clause-there
set-requires-clause-there boxes c =
    let x = c.requires.0 in
    let s = c.requires.1 in
    let saved = c.save_context.ensures.holds x.setup (rested c.args.self.now.machine s) c.requires.2.machine in
    subst (λ (ds : List DeviceData). c.args.k < length ds) (sym saved.devices) c.requires.3

pub set-requires-clause-fits : goal.set-requires-clause-fits
set-requires-clause-fits boxes c =
    let x = c.requires.0 in
    let s = c.requires.1 in
    let saved = c.save_context.ensures.holds x.setup (rested c.args.self.now.machine s) c.requires.2.machine in
    subst (λ (ds : List DeviceData). IsSettable (device_at ds c.args.k).kind c.args.count c.args.queue.now) (sym saved.devices) c.requires.4

pub returns-clause-holds : goal.returns-clause-holds
unfolding with_devices
returns-clause-holds boxes c = λ x s h.
    let b = c.args.self.now in
    let set : List DeviceData → List DeviceData = λ ds. with_device ds c.args.k record (device_at ds c.args.k) { count = c.args.count; queue = c.args.queue.now } in
    let u : State = record s { devices = set s.devices } in
    let saved = c.save_context.ensures.holds x.setup (rested b.machine s) h.machine in
    let kernel = holds_devices x.setup (kept_of c.save_context.new.self.space.kernel) (rested b.machine s) (set s.devices) saved.kernel in
    holds_told _ x x s u b _ h refl refl record { kernel = kernel; devices = c.set.ensures ∙ ap set saved.devices } c.save_context.ensures.unloaded (choice_of_devices x.setup s b.choice u.devices h.choice) refl refl refl h.io_regions

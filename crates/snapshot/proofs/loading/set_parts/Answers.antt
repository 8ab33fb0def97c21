use Rattle.std.proofs.Common.{◌≡◌, ◌∙◌, ◌+◌, ◌*◌, List, length, length-drop, drop, sym, ap, subst, arith}
use Rattle.kernel_abi.specs.Devices.{DeviceData, device_at}
use Rattle.mem_banks.specs.Memory.{Memory}
use Rattle.task_table.specs.model.State.{State}
use Rattle.board_core.specs.Data.{boxed}
use Rattle.board_core.specs.Stands.{Holds}
use Rattle.snapshot.specs.Records.{device_in, header_at}
use Rattle.snapshot.specs.declared.records.Header.{Header}
use Rattle.snapshot.specs.Accepted.{IsGoodDevice}
use Rattle.snapshot.proofs.Boards.{has_parts}
use Rattle.snapshot.proofs.Loads.{tasks_told, told_front, told_from, told_ram, loaded_by}
use Rattle.snapshot.proofs.loading.set_parts.Goals as goal

pub set_numbers-requires : goal.set_numbers-requires
set_numbers-requires g c =
    let f = has_parts _ c.requires.0 c.args.board.now c.requires.1 c.args.tasks c.args.devices c.args.bytes.now c.requires.2 c.requires.3 c.requires.4 c.requires.5 in
    let there = f.current in
    let many = f.as_many in
    let told = ap (λ (h : Header). h.current) c.header.ensures in
    omega (arith, there, many, told)

pub set_tasks-requires-clause-long : goal.set_tasks-requires-clause-long
set_tasks-requires-clause-long g c =
    let f = has_parts _ c.requires.0 c.args.board.now c.requires.1 c.args.tasks c.args.devices c.args.bytes.now c.requires.2 c.requires.3 c.requires.4 c.requires.5 in
    let long = f.long in
    omega (arith, long)

pub set_tasks-requires-clause-good : goal.set_tasks-requires-clause-good
set_tasks-requires-clause-good g c = (has_parts _ c.requires.0 c.args.board.now c.requires.1 c.args.tasks c.args.devices c.args.bytes.now c.requires.2 c.requires.3 c.requires.4 c.requires.5).good

pub rest-requires : goal.rest-requires
rest-requires g c =
    let f = has_parts _ c.requires.0 c.args.board.now c.requires.1 c.args.tasks c.args.devices c.args.bytes.now c.requires.2 c.requires.3 c.requires.4 c.requires.5 in
    let long = f.long in
    omega (arith, long)

pub set_ram-requires : goal.set_ram-requires
set_ram-requires g c =
    let x = c.requires.0 in
    let u = c.requires.1 in
    let bytes = c.args.bytes.now in
    let h = c.header.result in
    let f = has_parts _ x c.args.board.now u c.args.tasks c.args.devices bytes c.requires.2 c.requires.3 c.requires.4 c.requires.5 in
    let long = f.long in
    let many = c.requires.3 in
    let told = tasks_told bytes (header_at bytes).clock c.args.tasks (told_front bytes h u) (omega (arith, many)) f.few f.good in
    let behind = length-drop (100 + 132 * c.args.tasks + 72 * c.args.devices) bytes in
    let much : length (drop (100 + 132 * c.args.tasks + 72 * c.args.devices) bytes) ≡ length u.memory.ram = omega (arith, behind, long) in
    let holds = c.set_tasks.ensures.holds x _ (c.set_lines.ensures.holds x _ (c.set_numbers.ensures.holds x u c.requires.2.holds)) in
    (x, told_from bytes c.args.tasks h u, holds, ap length c.rest.ensures ∙ much ∙ ap (λ (m : Memory). length m.ram) (sym told.memory))

pub set_devices-requires-clause-long : goal.set_devices-requires-clause-long
set_devices-requires-clause-long g c =
    let f = has_parts _ c.requires.0 c.args.board.now c.requires.1 c.args.tasks c.args.devices c.args.bytes.now c.requires.2 c.requires.3 c.requires.4 c.requires.5 in
    let long = f.long in
    omega (arith, long)

pub set_devices-requires-clause-fit : goal.set_devices-requires-clause-fit
set_devices-requires-clause-fit g c =
    let x = c.requires.0 in
    let u = c.requires.1 in
    let bytes = c.args.bytes.now in
    let h = c.header.result in
    let f = has_parts _ x c.args.board.now u c.args.tasks c.args.devices bytes c.requires.2 c.requires.3 c.requires.4 c.requires.5 in
    let many = c.requires.3 in
    let told = tasks_told bytes (header_at bytes).clock c.args.tasks (told_front bytes h u) (omega (arith, many)) f.few f.good in
    let holds = c.set_ram.ensures.holds x _ (c.set_tasks.ensures.holds x _ (c.set_lines.ensures.holds x _ (c.set_numbers.ensures.holds x u c.requires.2.holds))) in
    let same : u.devices ≡ (told_from bytes c.args.tasks h u).devices = sym told.devices in
    let beside = c.requires.4 in
    let long = ap (λ (ds : List DeviceData). length ds) same in
    (x, told_ram c.rest.result.now (told_from bytes c.args.tasks h u), holds, omega (arith, beside, long), λ k lt. subst (λ (ds : List DeviceData). IsGoodDevice (device_at ds k).kind (device_in bytes c.args.tasks k)) same (f.fit k lt))

pub returns : goal.returns
returns g c = λ x u many beside h.
    let shown = boxed (λ p. (goal.Device-dyn g p).shown p.1) in
    let P : State → Type 0 = λ s. Holds shown x c.set_devices.new.board s in
    subst P (loaded_by c.args.bytes.now c.rest.result.now c.args.tasks c.args.devices c.header.result u many beside c.header.ensures c.rest.ensures)
    (c.set_devices.ensures.holds x _ (c.set_ram.ensures.holds x _ (c.set_tasks.ensures.holds x _ (c.set_lines.ensures.holds x _ (c.set_numbers.ensures.holds x u h)))))

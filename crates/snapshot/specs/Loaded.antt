-- What a board is set to from the bytes of a saved state, part by part, and why bytes are refused.
use Rattle.std.specs.Prelude.{ℕ, zero, suc, ◌+◌, ◌≡◌, ⊤, List, length, map, drop, slice_index, slice_set, Option, Some}
use Rattle.kernel_abi.specs.declared.Kind.{Kind}
use Rattle.kernel_abi.specs.Devices.{DeviceData, device_at, with_device}
use Rattle.task_table.specs.declared.Line.{Line}
use Rattle.task_table.specs.model.State.{State}
use Rattle.task_table.specs.model.Sane.{Sane, IsCounted}
use Rattle.task_table.specs.kept.Setting.{with_slot}
use Rattle.board_model.specs.Script.{Scenario}
use Rattle.board_core.specs.Setting.{slot_told}
use Rattle.snapshot.specs.declared.loading.StateFault.{StateFault}
use Rattle.snapshot.specs.declared.loading.StateFault.TheVariants as state_fault
use Rattle.snapshot.specs.declared.records.Header.{Header}
use Rattle.snapshot.specs.Records.{header_at, task_in, device_in, ram_place}
use Rattle.snapshot.specs.Restored.{line_from, device_from}
use Rattle.snapshot.specs.Saved.{SpellsState}
use Rattle.snapshot.specs.Views.{view_of}

-- the kinds and the bases of devices, in order
abbrev pub sites : List DeviceData → List (Kind × ℕ)
sites devices = map (λ d. (d.kind, d.base)) devices

-- a state that bytes spell, beside the devices of a run
pub record IsSpelledBy (x : Scenario) (bytes : List ℕ) (s : State) : Type 0 where
  pub spelled : SpellsState x.setup s bytes
  pub sane : Sane x.setup s
  pub counted : IsCounted s
  pub sites : sites s.devices ≡ sites x.devices

-- the fault is this refusal of the bytes, or memory ran out
abbrev pub IsStateFault : Option (ℕ × ℕ) → StateFault → Type 0
IsStateFault refusal state_fault.Memory = ⊤
IsStateFault refusal (state_fault.Refused cause place) = refusal ≡ Some (cause, place)

-- ## a state with some parts taken from the bytes

abbrev pub with_numbers : Header → State → State
with_numbers h s = record s { turn = h.turn; now = h.clock; current = h.current; next_call = h.next_call }

-- with the first n lines, tasks or devices taken from the bytes
unfoldable pub with_lines : List ℕ → ℕ → List Line → List Line
with_lines bytes zero lines = lines
with_lines bytes (suc n) lines = slice_set (with_lines bytes n lines) n (line_from (slice_index bytes (36 + n)))

unfoldable pub with_tasks : List ℕ → ℕ → State → State
with_tasks bytes zero s = s
with_tasks bytes (suc n) s = with_slot n (slot_told (view_of (task_in bytes n) n)) (with_tasks bytes n s)

-- the records of devices stand after those of this many tasks
unfoldable pub with_devices : List ℕ → ℕ → ℕ → List DeviceData → List DeviceData
with_devices bytes tasks zero devices = devices
with_devices bytes tasks (suc k) devices =
    let set = with_devices bytes tasks k devices in
    with_device set k (device_from (device_at set k) (device_in bytes tasks k))

-- with all parts taken from the bytes, in the order in which a board is set to them
unfoldable pub loaded : List ℕ → State → State
loaded bytes u =
    let tasks = length u.tasks in
    let devices = length u.devices in
    let numbers = with_numbers (header_at bytes) u in
    let told = with_tasks bytes tasks (record numbers { lines = with_lines bytes 64 u.lines }) in
    let full = record told { memory = record told.memory { ram = drop (ram_place tasks devices) bytes } } in
    record full { devices = with_devices bytes tasks devices full.devices }

-- Which devices ask for an interrupt, and so which interrupt lines (docs/FORMATS.md, Devices; this project's
-- profile).
use Rattle.std.specs.Prelude.{ℕ, Bool, true, false, nat_lt, List, length, Option, Some, None}
use Rattle.kernel_abi.specs.declared.Kind.{Kind}
use Rattle.kernel_abi.specs.declared.Kind.TheVariants as kind
use Rattle.kernel_abi.specs.Devices.{DeviceData, behind, device_at}
use Rattle.task_table.specs.model.State.{State, LineSetup}

-- A port asks while a byte waits. A console always asks, since it takes a byte at any time.
abbrev pub asks : Kind → List ℕ → Bool
asks kind.Console queue = true
asks kind.Port queue = nat_lt 0 (length queue)

abbrev pub asks_of : List DeviceData → Option ℕ → Bool
asks_of ds None = false
asks_of ds (Some k) = asks (device_at ds k).kind (device_at ds k).queue

-- whether the device behind an address asks; where none is, nothing does
abbrev pub asks_at : List DeviceData → ℕ → Bool
asks_at ds addr = asks_of ds (behind addr ds)

-- whether the device that drives a line asks
abbrev pub is_asked : State → LineSetup → Bool
is_asked s o = asks_at s.devices o.device

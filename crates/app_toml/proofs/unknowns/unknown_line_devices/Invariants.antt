use Rattle.std.proofs.Common.{◌≡◌, List, drop, map}
use Rattle.app_toml.specs.Apps.{DeviceData, TaskData}
use Rattle.app_toml.specs.Crossed.{has_device, unknown_line_device}
use Rattle.app_toml.specs.Known.{HasJust, Keeps}
use Rattle.app_toml.specs.Places.{first_fault}
use Rattle.app_toml.specs.Sites.{interrupt_of}
use Rattle.app_toml.proofs.unknowns.unknown_line_devices.Given as goal

abbrev pub invariant-loop-i : goal.invariant-loop-i
invariant-loop-i l =
    (tasks : List TaskData) (devices : List DeviceData) → Keeps l.kept tasks → HasJust l.known (λ name. has_device name devices)
    → first_fault (unknown_line_device tasks devices) l.i (map interrupt_of (drop l.i l.interrupts)) ≡ first_fault (unknown_line_device tasks devices) 0 (map interrupt_of l.interrupts)

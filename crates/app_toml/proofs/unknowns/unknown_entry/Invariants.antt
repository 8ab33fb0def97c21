use Rattle.std.proofs.Common.{◌≡◌, List, drop, map, string_bytes}
use Rattle.app_toml.specs.Apps.{DeviceData, RegionData}
use Rattle.app_toml.specs.Crossed.{task_site, unknown_entry}
use Rattle.app_toml.specs.Known.{NamesAreas}
use Rattle.app_toml.specs.Places.{first_fault}
use Rattle.app_toml.proofs.unknowns.unknown_entry.Given as goal

abbrev pub invariant-loop-i : goal.invariant-loop-i
invariant-loop-i l =
    (regions : List RegionData) (devices : List DeviceData) → NamesAreas l.known regions devices
    → first_fault (unknown_entry regions devices (task_site l.k l.key)) l.i (map string_bytes (drop l.i l.names)) ≡ first_fault (unknown_entry regions devices (task_site l.k l.key)) 0 (map string_bytes l.names)

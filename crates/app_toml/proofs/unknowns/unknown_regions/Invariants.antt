use Rattle.std.proofs.Common.{◌≡◌, List, drop, map}
use Rattle.app_toml.specs.Apps.{DeviceData, RegionData}
use Rattle.app_toml.specs.Crossed.{unknown_region}
use Rattle.app_toml.specs.Known.{NamesAreas}
use Rattle.app_toml.specs.Places.{first_fault}
use Rattle.app_toml.specs.Sites.{task_of}
use Rattle.app_toml.proofs.unknowns.unknown_regions.Given as goal

abbrev pub invariant-loop-i : goal.invariant-loop-i
invariant-loop-i l =
    (regions : List RegionData) (devices : List DeviceData) → NamesAreas l.known regions devices
    → first_fault (unknown_region regions devices) l.i (map task_of (drop l.i l.tasks)) ≡ first_fault (unknown_region regions devices) 0 (map task_of l.tasks)

use Rattle.std.proofs.Common.{◌≡◌, ◌||◌, [], drop, map, take}
use Rattle.std.specs.BTreeSet.{contains_text}
use Rattle.app_toml.specs.Crossed.{has_device, has_region, device_twice}
use Rattle.app_toml.specs.Places.{Text, first_clash}
use Rattle.app_toml.specs.Sites.{device_of, region_of}
use Rattle.app_toml.proofs.repeats.devices_twice.Given as goal

abbrev pub invariant-loop-i : goal.invariant-loop-i
invariant-loop-i l =
    (first_clash (device_twice (map region_of l.regions)) (map device_of (take l.i l.devices)) l.i (map device_of (drop l.i l.devices))
    ≡ first_clash (device_twice (map region_of l.regions)) [] 0 (map device_of l.devices))
    × ((q : Text) → contains_text l.known q ≡ (has_region q (map region_of l.regions) || has_device q (map device_of (take l.i l.devices))))

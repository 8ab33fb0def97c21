use Rattle.std.proofs.Common.{◌≡◌, [], drop, map, take}
use Rattle.app_toml.specs.Crossed.{overlap}
use Rattle.app_toml.specs.Places.{first_clash}
use Rattle.app_toml.specs.Sites.{device_of}
use Rattle.app_toml.specs.Spread.{IsByBase, IsSpread}
use Rattle.app_toml.proofs.overlaps.overlap.Given as goal

abbrev pub invariant-loop-i : goal.invariant-loop-i
invariant-loop-i l =
    (first_clash overlap (map device_of (take l.i l.devices)) l.i (map device_of (drop l.i l.devices))
    ≡ first_clash overlap [] 0 (map device_of l.devices))
    × IsByBase l.bases (map device_of (take l.i l.devices)) × IsSpread l.bases

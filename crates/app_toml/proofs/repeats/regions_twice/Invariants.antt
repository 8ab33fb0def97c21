use Rattle.std.proofs.Common.{◌≡◌, [], drop, map, take}
use Rattle.std.specs.BTreeSet.{contains_text}
use Rattle.app_toml.specs.Crossed.{has_region, region_twice}
use Rattle.app_toml.specs.Places.{Text, first_clash}
use Rattle.app_toml.specs.Sites.{region_of}
use Rattle.app_toml.proofs.repeats.regions_twice.Given as goal

abbrev pub invariant-loop-i : goal.invariant-loop-i
invariant-loop-i l =
    (first_clash region_twice (map region_of (take l.i l.regions)) l.i (map region_of (drop l.i l.regions))
    ≡ first_clash region_twice [] 0 (map region_of l.regions))
    × ((q : Text) → contains_text l.known q ≡ has_region q (map region_of (take l.i l.regions)))

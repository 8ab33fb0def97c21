use Rattle.std.proofs.Common.{map, take}
use Rattle.app_toml.specs.Crossed.{has_region}
use Rattle.app_toml.specs.Known.{HasJust}
use Rattle.app_toml.specs.Sites.{region_of}
use Rattle.app_toml.proofs.known.known_regions.Given as goal

abbrev pub invariant-loop-region : goal.invariant-loop-region
invariant-loop-region l = HasJust l.known (λ q. has_region q (map region_of (take l.region-index l.regions)))

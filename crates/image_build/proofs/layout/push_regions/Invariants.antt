use Rattle.std.proofs.Common.{◌≡◌, ◌++◌, drop, map}
use Rattle.app_toml.specs.Sites.{region_of}
use Rattle.image_build.proofs.layout.push_regions.Given as goal

abbrev pub invariant-loop-region : goal.invariant-loop-region
invariant-loop-region l =
    l.sizes.items ++ map (λ r. r.size) (map region_of (drop l.region-index l.regions))
    ≡ l.fn.sizes.items ++ map (λ r. r.size) (map region_of l.regions)

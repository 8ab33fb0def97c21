use Rattle.std.proofs.Common.{◌≡◌, drop, map}
use Rattle.app_toml.specs.Sites.{region_of}
use Rattle.image_build.specs.Layout.{index_from}
use Rattle.image_build.proofs.names.region_place.Given as goal

abbrev pub invariant-loop-i : goal.invariant-loop-i
invariant-loop-i l =
    index_from l.i l.name (map (λ x. x.name) (map region_of (drop l.i l.regions))) ≡ index_from 0 l.name (map (λ x. x.name) (map region_of l.regions))

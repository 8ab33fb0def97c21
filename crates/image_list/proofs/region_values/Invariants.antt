use Rattle.std.proofs.Common.{◌≡◌, take, map}
use Rattle.serde_json.specs.View.{view}
use Rattle.image_list.specs.Listing.{region_data}
use Rattle.image_list.proofs.region_values.Given as goal

-- the regions so far
abbrev pub invariant-loop-region : goal.invariant-loop-region
invariant-loop-region l = map view l.values.items ≡ map region_data (take l.region-index l.regions)

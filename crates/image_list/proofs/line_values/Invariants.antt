use Rattle.std.proofs.Common.{◌≡◌, take, map}
use Rattle.serde_json.specs.View.{view}
use Rattle.image_format.specs.Images.{image_data}
use Rattle.image_list.specs.Listing.{line_data}
use Rattle.image_list.proofs.line_values.Given as goal

-- the interrupts so far
abbrev pub invariant-loop-k : goal.invariant-loop-k
invariant-loop-k l = map view l.values.items ≡ map line_data (take l.k (image_data l.image).lines)

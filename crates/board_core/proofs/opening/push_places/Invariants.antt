use Rattle.std.proofs.Common.{◌≡◌}
use Rattle.image_format.specs.Images.{image_data}
use Rattle.image_format.specs.ImageData.{regions_in}
use Rattle.board_core.specs.Regions.{ArePlaces, HavePlaces}
use Rattle.board_core.proofs.Opens.{HaveFirst}
use Rattle.board_core.proofs.opening.push_places.Given as goal

-- the places so far
abbrev pub invariant-loop-k : goal.invariant-loop-k
invariant-loop-k l = record {
  are : ArePlaces (image_data l.image) l.places.items;
  before : HavePlaces (image_data l.image) l.i l.places.items;
  own : l.regions.items ≡ regions_in (image_data l.image) l.i;
  first : HaveFirst l.regions.items l.k l.places.items;
}

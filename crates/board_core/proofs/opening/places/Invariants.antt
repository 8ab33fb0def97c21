use Rattle.image_format.specs.Images.{image_data}
use Rattle.board_core.specs.Regions.{ArePlaces, HavePlaces}
use Rattle.board_core.proofs.opening.places.Given as goal

-- the places so far
abbrev pub invariant-loop-i : goal.invariant-loop-i
invariant-loop-i l = record {
  are : ArePlaces (image_data l.image) l.places.items;
  all : HavePlaces (image_data l.image) l.i l.places.items;
}

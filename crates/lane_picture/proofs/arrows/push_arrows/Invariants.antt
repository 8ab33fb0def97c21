use Rattle.std.proofs.Common.{◌≡◌, ◌++◌, take}
use Rattle.std.specs.List.{flat_map}
use Rattle.lane_picture.specs.Drawing.{arrow_text}
use Rattle.lane_picture.specs.Sizes.{drawn_of}
use Rattle.lane_picture.proofs.arrows.push_arrows.Given as goal

abbrev pub invariant-loop-arrow : goal.invariant-loop-arrow
invariant-loop-arrow l = l.out.items ≡ l.fn.out.items ++ flat_map (arrow_text (drawn_of l.picture)) (take l.arrow-index l.arrow-items)

use Rattle.std.proofs.Common.{◌≡◌, ◌++◌}
use Rattle.std.specs.List.{flat_map, range_with_len}
use Rattle.lane_picture.specs.Drawing.{activity_box}
use Rattle.lane_picture.specs.Sizes.{drawn_of}
use Rattle.lane_picture.proofs.lanes.push_activity_boxes.Given as goal

abbrev pub invariant-loop-k : goal.invariant-loop-k
invariant-loop-k l = l.out.items ≡ l.fn.out.items ++ flat_map (activity_box (drawn_of l.picture) l.i l.activity) (range_with_len 0 l.k)

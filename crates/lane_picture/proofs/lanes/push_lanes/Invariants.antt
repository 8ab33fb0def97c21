use Rattle.std.proofs.Common.{◌≡◌, ◌++◌}
use Rattle.std.specs.List.{flat_map, range_with_len}
use Rattle.lane_picture.specs.Drawing.{lane_text}
use Rattle.lane_picture.specs.Sizes.{drawn_of}
use Rattle.lane_picture.proofs.lanes.push_lanes.Given as goal

abbrev pub invariant-loop-i : goal.invariant-loop-i
invariant-loop-i l = l.out.items ≡ l.fn.out.items ++ flat_map (lane_text (drawn_of l.picture)) (range_with_len 0 l.i)

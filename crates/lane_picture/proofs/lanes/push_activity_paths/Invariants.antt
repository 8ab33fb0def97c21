use Rattle.std.proofs.Common.{◌≡◌, ◌++◌}
use Rattle.std.specs.List.{flat_map, range_with_len}
use Rattle.lane_picture.specs.Drawing.{activity_path}
use Rattle.lane_picture.specs.Sizes.{drawn_of}
use Rattle.lane_picture.proofs.lanes.push_activity_paths.Given as goal

abbrev pub invariant-loop-activity : goal.invariant-loop-activity
invariant-loop-activity l = l.out.items ≡ l.fn.out.items ++ flat_map (activity_path (drawn_of l.picture) l.i) (range_with_len 0 l.activity)

use Rattle.std.proofs.Common.{◌≡◌, ◌*◌, ◌++◌}
use Rattle.std.specs.List.{flat_map, range_with_len}
use Rattle.lane_picture.specs.Drawing.{grid_line_within}
use Rattle.lane_picture.specs.Sizes.{drawn_of}
use Rattle.lane_picture.proofs.heading.push_axis.Given as goal

abbrev pub invariant-loop-j : goal.invariant-loop-j
invariant-loop-j l = l.out.items ≡ l.fn.out.items ++ flat_map (λ j. grid_line_within (drawn_of l.picture) (j * l.step)) (range_with_len 0 l.j)

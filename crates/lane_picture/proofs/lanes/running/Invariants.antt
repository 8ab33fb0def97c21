use Rattle.std.proofs.Common.{◌≡◌, ◌*◌, ◌≤◌}
use Rattle.std.specs.Prelude.{slice_index_or, sum_by}
use Rattle.std.specs.List.{range_with_len}
use Rattle.lane_picture.specs.Sizes.{cell_at, drawn_of}
use Rattle.lane_picture.proofs.lanes.running.Given as goal

abbrev pub invariant-loop-k : goal.invariant-loop-k
invariant-loop-k l = (l.turns ≡ sum_by (λ k. slice_index_or (cell_at (drawn_of l.picture) k l.i).turns 0 0) (range_with_len 0 l.k)) × (l.turns ≤ l.k * 4294967295)

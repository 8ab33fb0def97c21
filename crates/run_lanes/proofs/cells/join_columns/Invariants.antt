use Rattle.std.proofs.Common.{◌+◌, get_or}
use Rattle.lane_picture.specs.Sizes.{no_cell}
use Rattle.run_lanes.specs.Counted.{Changed, joined}
use Rattle.run_lanes.proofs.cells.join_columns.Given as goal

abbrev pub invariant-loop-i : goal.invariant-loop-i
invariant-loop-i l = Changed l.fn.cells l.cells l.at l.i (λ i _. joined (get_or l.fn.cells (l.from + i) no_cell) (get_or l.fn.cells (l.from + l.tasks + i) no_cell))

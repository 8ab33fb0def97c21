use Rattle.std.proofs.Common.{◌≡◌, ◌≤◌, ◌<◌, ◌+◌, ◌*◌, ℕ, get_or}
use Rattle.lane_picture.specs.declared.parts.Cell.{Cell}
use Rattle.lane_picture.specs.Sizes.{no_cell}
use Rattle.run_lanes.specs.Counted.{joined}
use Rattle.run_lanes.proofs.cells.join_all.Given as goal

abbrev pub invariant-loop-k : goal.invariant-loop-k
invariant-loop-k l = record {
  made : (j i : ℕ) (d : Cell) → j < l.k → i < l.tasks → get_or l.cells (j * l.tasks + i) d ≡ joined (get_or l.fn.cells (2 * j * l.tasks + i) no_cell) (get_or l.fn.cells (2 * j * l.tasks + l.tasks + i) no_cell);
  behind : (j : ℕ) (d : Cell) → l.k * l.tasks ≤ j → get_or l.cells j d ≡ get_or l.fn.cells j d;
}

use Rattle.std.proofs.Common.{◌≡◌, ◌≤◌, ◌<◌, ℕ, get_or}
use Rattle.lane_picture.specs.declared.parts.Cell.{Cell}
use Rattle.lane_picture.specs.Sizes.{no_cell}
use Rattle.run_lanes.proofs.cells.clear.Given as goal

abbrev pub invariant-loop-j : goal.invariant-loop-j
invariant-loop-j l = record {
  before : (k : ℕ) (d : Cell) → k < l.from → get_or l.cells k d ≡ get_or l.fn.cells k d;
  rest : (k : ℕ) (d : Cell) → l.from ≤ k → k < l.j → get_or l.cells k d ≡ no_cell;
}

use Rattle.std.proofs.Common.{◌≡◌, ◌⊎◌, ◌+◌, ◌-◌, ◌≤◌, ◌<◌, ℕ, get_or}
use Rattle.std.specs.Prelude.{Contains}
use Rattle.board_core.proofs.fast_path.breakpoints.stretch_around.Given as goal

abbrev pub invariant-loop-breakpoint : goal.invariant-loop-breakpoint
invariant-loop-breakpoint l = record {
  from : l.from ≤ l.here;
  to : l.here ≤ l.to;
  inside : l.to ≤ l.region.size;
  free : (k : ℕ) → k < l.breakpoint-index → l.region.base + l.from ≤ get_or l.breakpoints k 0 → l.region.base + l.to ≤ get_or l.breakpoints k 0;
  before : (l.from ≡ 0) ⊎ Contains l.breakpoints (l.region.base + l.from - 1);
  behind : (l.to ≡ l.region.size) ⊎ Contains l.breakpoints (l.region.base + l.to);
}

use Rattle.std.proofs.Common.{◌≡◌, ◌≤◌, ◌<◌, ℕ, get_or}
use Rattle.run_lanes.specs.Counted.{both}
use Rattle.run_lanes.proofs.cells.add_counts.Given as goal

abbrev pub invariant-loop-w : goal.invariant-loop-w
invariant-loop-w l = record {
  made : (k d : ℕ) → k < l.w → get_or l.counts k d ≡ both (get_or l.fn.counts k 0) (get_or l.more k 0);
  behind : (k d : ℕ) → l.w ≤ k → get_or l.counts k d ≡ get_or l.fn.counts k d;
}

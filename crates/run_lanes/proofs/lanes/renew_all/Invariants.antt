use Rattle.std.proofs.Common.{◌≡◌, ◌<◌, ◌≤◌, ℕ, get_or}
use Rattle.run_lanes.specs.declared.lanes.LaneStretch.{LaneStretch}
use Rattle.run_lanes.specs.Timeline.{activity_at, renewed, stretch_at}
use Rattle.run_lanes.proofs.lanes.renew_all.Given as goal

abbrev pub invariant-loop-i : goal.invariant-loop-i
invariant-loop-i l = record {
  so_far : (k : ℕ) (d : LaneStretch) → k < l.i → get_or l.stretches k d ≡ renewed l.turn (stretch_at l.fn.stretches k) (activity_at l.activities k);
  others : (k : ℕ) (d : LaneStretch) → l.i ≤ k → get_or l.stretches k d ≡ get_or l.fn.stretches k d;
}

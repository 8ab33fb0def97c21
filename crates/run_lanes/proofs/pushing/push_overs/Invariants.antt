use Rattle.std.proofs.Common.{◌≤◌}
use Rattle.std.specs.List.{flat_map, range_with_len}
use Rattle.std.specs.Io.KnownBytes.{Appends}
use Rattle.run_lanes.specs.Timeline.{activity_at, over_text, stretch_at}
use Rattle.run_lanes.proofs.pushing.push_overs.Given as goal

abbrev pub invariant-loop-i : goal.invariant-loop-i
invariant-loop-i g l = record {
  pushed : Appends (g.S.Sink.seen l.fn.out).written (g.S.Sink.seen l.out).written (flat_map (λ i. over_text l.turn i (stretch_at l.stretches i) (activity_at l.activities i)) (range_with_len 0 l.i));
  later : (g.S.Sink.seen l.fn.out).faults ≤ (g.S.Sink.seen l.out).faults;
}

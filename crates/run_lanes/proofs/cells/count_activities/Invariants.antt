use Rattle.run_lanes.specs.Counted.{Changed, counted}
use Rattle.run_lanes.specs.Timeline.{activity_at}
use Rattle.run_lanes.proofs.cells.count_activities.Given as goal

abbrev pub invariant-loop-i : goal.invariant-loop-i
invariant-loop-i l = Changed l.fn.cells l.cells l.at l.i (λ i c. counted c (activity_at l.activities i) l.turns)

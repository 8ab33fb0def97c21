use Rattle.std.proofs.Common.{◌≡◌, drop}
use Rattle.run_lanes.specs.Timeline.{client_from}
use Rattle.run_lanes.proofs.lanes.client_thread.Given as goal

-- no task so far offered it last
abbrev pub invariant-loop-i : goal.invariant-loop-i
invariant-loop-i l = client_from l.call 0 l.offers ≡ client_from l.call l.i (drop l.i l.offers)

use Rattle.std.proofs.Common.{◌≡◌, drop}
use Rattle.run_lanes.specs.Timeline.{server_in}
use Rattle.run_lanes.proofs.lanes.server_thread.Given as goal

-- no task so far offered it last
abbrev pub invariant-loop-offer : goal.invariant-loop-offer
invariant-loop-offer l = server_in l.call l.offers ≡ server_in l.call (drop l.offer-index l.offers)

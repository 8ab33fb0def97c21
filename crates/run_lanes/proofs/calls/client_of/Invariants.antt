use Rattle.std.proofs.Common.{◌≡◌, drop}
use Rattle.run_lanes.specs.Told.{client_of}
use Rattle.run_lanes.proofs.calls.client_of.Given as goal

-- no task so far has it open
abbrev pub invariant-loop-i : goal.invariant-loop-i
invariant-loop-i l = client_of l.call 0 l.calls ≡ client_of l.call l.i (drop l.i l.calls)

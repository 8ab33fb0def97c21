use Rattle.std.proofs.Common.{◌≤◌, ◌-◌}
use Rattle.debug_core.proofs.replay.place_of.Given as goal

abbrev pub invariant-halves : goal.invariant-halves
invariant-halves l = l.group ≤ 13

abbrev pub decreases-halves : goal.decreases-halves
decreases-halves l = 13 - l.group

use Rattle.std.proofs.Common.{◌≤◌}
use Rattle.sweep_core.proofs.checkpoints.Checkpoints.next.Given as goal

abbrev pub invariant-loop-k : goal.invariant-loop-k
invariant-loop-k l = l.from ≤ l.next

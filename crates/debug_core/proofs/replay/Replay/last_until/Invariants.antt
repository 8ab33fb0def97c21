use Rattle.debug_core.proofs.Latest.{IsLatest}
use Rattle.debug_core.proofs.replay.Replay.last_until.Given as goal

abbrev pub invariant-loop-k : goal.invariant-loop-k
invariant-loop-k boxes l = IsLatest l.self.kept.items l.to l.k l.best

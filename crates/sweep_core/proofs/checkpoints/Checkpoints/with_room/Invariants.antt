use Rattle.std.proofs.Common.{◌≡◌, length}
use Rattle.sweep_core.proofs.checkpoints.Checkpoints.with_room.Given as goal

abbrev pub invariant-loop : goal.invariant-loop
invariant-loop l = length l.room.items ≡ l.counter

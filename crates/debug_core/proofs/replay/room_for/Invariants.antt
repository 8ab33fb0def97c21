use Rattle.std.proofs.Common.{◌≡◌, length}
use Rattle.std.specs.List.{All}
use Rattle.debug_core.specs.Times.{IsFree}
use Rattle.debug_core.proofs.replay.room_for.Given as goal

abbrev pub invariant-loop : goal.invariant-loop
invariant-loop l = record {
  count : length l.kept.items ≡ l.counter;
  free : All IsFree l.kept.items;
  room : All (λ c. length c.bytes.items ≡ l.len) l.kept.items;
}

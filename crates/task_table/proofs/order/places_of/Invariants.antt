use Rattle.std.proofs.Common.{◌≡◌, length}
use Rattle.task_table.specs.kept.Order.{HavePlaces}
use Rattle.task_table.proofs.order.places_of.Given as goal

abbrev pub invariant-loop-place : goal.invariant-loop-place
invariant-loop-place l = record {
  count : length l.places.items ≡ length l.keys;
  at : HavePlaces l.keys l.place l.places.items;
}

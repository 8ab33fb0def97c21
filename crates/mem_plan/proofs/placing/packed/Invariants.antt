use Rattle.std.proofs.Common.{◌≡◌, take, length}
use Rattle.std.specs.List.{sum_by}
use Rattle.mem_plan.specs.Order.{IsPacked, size_of}
use Rattle.mem_plan.proofs.placing.packed.Given as goal

abbrev pub invariant-loop-k : goal.invariant-loop-k
invariant-loop-k l = record {
  len : length l.bases.items ≡ length l.order;
  used : l.used ≡ sum_by size_of (take l.k l.order);
  at : IsPacked l.order l.base l.k l.bases.items;
}

use Rattle.std.proofs.Common.{◌≡◌, take}
use Rattle.mem_plan.specs.Order.{numbered}
use Rattle.mem_plan.proofs.placing.order_of.Given as goal

abbrev pub invariant-loop-i : goal.invariant-loop-i
invariant-loop-i l = l.order.items ≡ numbered 0 (take l.i l.rounded)

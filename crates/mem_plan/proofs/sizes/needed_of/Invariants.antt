use Rattle.std.proofs.Common.{◌≡◌, ◌-◌, ◌^◌, take, min}
use Rattle.mem_plan.specs.Sizes.{total}
use Rattle.mem_plan.proofs.sizes.needed_of.Given as goal

abbrev pub invariant-loop-size : goal.invariant-loop-size
invariant-loop-size l = l.sum ≡ min (total (take l.size-index l.rounded)) (2 ^ 64 - 1)

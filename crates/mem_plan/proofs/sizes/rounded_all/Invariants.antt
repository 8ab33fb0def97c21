use Rattle.std.proofs.Common.{◌≡◌, map, take}
use Rattle.mem_plan.specs.Sizes.{rounded}
use Rattle.mem_plan.proofs.sizes.rounded_all.Given as goal

abbrev pub invariant-loop-i : goal.invariant-loop-i
invariant-loop-i l = l.out.items ≡ map rounded (take l.i l.sizes)

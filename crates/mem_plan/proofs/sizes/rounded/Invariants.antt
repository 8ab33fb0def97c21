use Rattle.std.proofs.Common.{◌≡◌, ◌-◌}
use Rattle.mem_plan.specs.Sizes.{doubled, rounded}
use Rattle.mem_plan.proofs.sizes.rounded.Given as goal

abbrev pub invariant-loop-i : goal.invariant-loop-i
invariant-loop-i l = doubled (12 - l.i) l.power l.size ≡ rounded l.size

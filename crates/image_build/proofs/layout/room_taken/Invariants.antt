use Rattle.std.proofs.Common.{◌≡◌, ◌+◌, drop, map}
use Rattle.mem_plan.specs.Sizes.{rounded, total}
use Rattle.image_build.proofs.layout.room_taken.Given as goal

abbrev pub invariant-loop-i : goal.invariant-loop-i
invariant-loop-i l = l.sum + total (map rounded (drop l.i l.sizes)) ≡ total (map rounded l.sizes)

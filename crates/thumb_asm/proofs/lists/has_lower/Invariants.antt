use Rattle.std.proofs.Common.{◌≡◌, false}
use Rattle.thumb_asm.specs.Sizes.{any_below, is_listed}
use Rattle.thumb_asm.specs.Kinds.{ranges_in}
use Rattle.thumb_asm.proofs.lists.has_lower.Given as goal

abbrev pub invariant-loop-r : goal.invariant-loop-r
invariant-loop-r l = any_below (is_listed (ranges_in l.text)) l.r ≡ false

use Rattle.std.proofs.Common.{◌≡◌, false}
use Rattle.thumb_asm.specs.Sizes.{any_below, is_double}
use Rattle.thumb_asm.specs.Kinds.{ranges_in}
use Rattle.thumb_asm.proofs.lists.has_double.Given as goal

abbrev pub invariant-loop-r : goal.invariant-loop-r
invariant-loop-r l = any_below (is_double (ranges_in l.text)) l.r ≡ false

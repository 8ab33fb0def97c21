use Rattle.std.proofs.Common.{◌≡◌, false}
use Rattle.thumb_asm.specs.Sizes.{any_below, is_stray}
use Rattle.thumb_asm.specs.Kinds.{ranges_in}
use Rattle.thumb_asm.proofs.lists.has_stray.Given as goal

abbrev pub invariant-loop-r : goal.invariant-loop-r
invariant-loop-r l = any_below (is_stray (ranges_in l.text) l.extra) l.r ≡ false

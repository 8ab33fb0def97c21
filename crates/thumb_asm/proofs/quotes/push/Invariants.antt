use Rattle.std.proofs.Common.{◌≡◌, ◌++◌, length, false}
use Rattle.thumb_asm.specs.Kinds.{good_text}
use Rattle.thumb_asm.proofs.quotes.push.Given as goal

abbrev pub invariant-bytes : goal.invariant-bytes
invariant-bytes l = l.out.items ++ good_text false l.left.rest.now ≡ l.fn.out.items ++ good_text false l.text

abbrev pub decreases-bytes : goal.decreases-bytes
decreases-bytes l = length l.left.rest.now

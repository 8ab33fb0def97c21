use Rattle.std.proofs.Common.{◌≡◌, false, length, is_some}
use Rattle.thumb_asm.specs.Operands.{text_of}
use Rattle.thumb_asm.proofs.quotes.is_closed.Given as goal

abbrev pub invariant-bytes : goal.invariant-bytes
invariant-bytes l = is_some (text_of false l.text) ≡ is_some (text_of false l.left.rest.now)

abbrev pub decreases-bytes : goal.decreases-bytes
decreases-bytes l = length l.left.rest.now

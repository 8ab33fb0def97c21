use Rattle.thumb_asm.proofs.Commas.{Splitting}
use Rattle.thumb_asm.proofs.operand.split_by.Given as goal

abbrev pub invariant-loop-i : goal.invariant-loop-i
invariant-loop-i l = Splitting l.mark l.text l.i

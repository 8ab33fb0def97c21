use Rattle.thumb_asm.proofs.Strange.{one_strange}
use Rattle.thumb_asm.proofs.syntax.shapes.one_operand.one.Goals as goal

pub returns-in_default : goal.returns-in_default
returns-in_default c = let o = c.in_default in one_strange c.args.mnemonic c.args.operand c.requires o.not-Register o.not-Immediate o.not-Expression o.not-Registers o.not-Quoted

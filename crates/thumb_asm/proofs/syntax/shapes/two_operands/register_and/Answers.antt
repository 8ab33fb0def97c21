use Rattle.thumb_asm.proofs.Strange.{behind_register}
use Rattle.thumb_asm.proofs.syntax.shapes.two_operands.register_and.Goals as goal

pub returns-in_default : goal.returns-in_default
returns-in_default c = let o = c.in_default in behind_register c.args.mnemonic c.args.r c.args.operand c.requires o.not-Register o.not-Immediate o.not-Expression o.not-Memory o.not-MemoryRegister o.not-MemoryImmediate o.not-Registers

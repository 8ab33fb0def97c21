use Rattle.std.proofs.Common.{◌≡◌, [], ◌∷◌, None, sym, subst}
use Rattle.thumb_asm.specs.declared.operand.Operand.{Operand as Held}
use Rattle.thumb_asm.specs.Kinds.{operand_of}
use Rattle.thumb_asm.specs.Syntax.{shaped}
use Rattle.thumb_asm.specs.Operands.{Register}
use Rattle.thumb_asm.proofs.Strange.{behind_registers, behind_first, three_strange}
use Rattle.thumb_asm.proofs.syntax.shapes.three_operands.three.Goals.{in_default-via-in-Register+in-Register+in_default, in_default-via-in-Register+in_default, in_default-via-in_default}
use Rattle.thumb_asm.proofs.syntax.shapes.three_operands.three.Goals as goal

pub returns-in_default : goal.returns-in_default
returns-in_default c = elim c.in_default.branch [
  | in_default-via-in-Register+in-Register+in_default w ↦ let o = w.in_default in subst (λ (a : Held). None ≡ shaped c.args.mnemonic (operand_of a ∷ operand_of c.args.b ∷ operand_of c.args.c ∷ [])) (sym o.is-0) (subst (λ (b : Held). None ≡ shaped c.args.mnemonic (Register o.field-0-0 ∷ operand_of b ∷ operand_of c.args.c ∷ [])) (sym o.is-1) (behind_registers c.args.mnemonic o.field-0-0 o.field-0-1 c.args.c c.requires o.not-Register-2 o.not-Immediate-2))
  | in_default-via-in-Register+in_default w ↦ let o = w.in_default in subst (λ (a : Held). None ≡ shaped c.args.mnemonic (operand_of a ∷ operand_of c.args.b ∷ operand_of c.args.c ∷ [])) (sym o.is-0) (behind_first c.args.mnemonic o.field-0-0 c.args.b (operand_of c.args.c) c.requires o.not-Register-1)
  | in_default-via-in_default w ↦ let o = w.in_default in three_strange c.args.mnemonic c.args.a (operand_of c.args.b) (operand_of c.args.c) c.requires o.not-Register-0
]

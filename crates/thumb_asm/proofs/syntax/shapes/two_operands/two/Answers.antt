use Rattle.std.proofs.Common.{◌≡◌, [], ◌∷◌, None, sym, subst}
use Rattle.thumb_asm.specs.declared.operand.Operand.{Operand as Held}
use Rattle.thumb_asm.specs.Kinds.{operand_of}
use Rattle.thumb_asm.specs.Syntax.{shaped}
use Rattle.thumb_asm.proofs.Strange.{behind_raised, behind_expression, two_strange}
use Rattle.thumb_asm.proofs.syntax.shapes.two_operands.two.Goals.{in_default-via-in-Raised+in_default, in_default-via-in-Expression+in_default, in_default-via-in_default}
use Rattle.thumb_asm.proofs.syntax.shapes.two_operands.two.Goals as goal

pub returns-in_default : goal.returns-in_default
returns-in_default c = elim c.in_default.branch [
  | in_default-via-in-Raised+in_default w ↦ let o = w.in_default in subst (λ (a : Held). None ≡ shaped c.args.mnemonic (operand_of a ∷ operand_of c.args.b ∷ [])) (sym o.is-0) (behind_raised c.args.mnemonic o.field-0-0 c.args.b c.requires o.not-Registers-1)
  | in_default-via-in-Expression+in_default w ↦ let o = w.in_default in subst (λ (a : Held). None ≡ shaped c.args.mnemonic (operand_of a ∷ operand_of c.args.b ∷ [])) (sym o.is-0) (behind_expression c.args.mnemonic o.field-0-0.now c.args.b c.requires o.not-Register-1)
  | in_default-via-in_default w ↦ let o = w.in_default in two_strange c.args.mnemonic c.args.a (operand_of c.args.b) c.requires o.not-Register-0 o.not-Raised-0 o.not-Expression-0
]

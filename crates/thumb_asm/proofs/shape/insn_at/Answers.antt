use Rattle.std.proofs.Common.{sym, subst}
use Rattle.thumb_asm.specs.Meaning.{insn_at}
use Rattle.thumb_asm.specs.Passes.{env_in}
use Rattle.thumb_asm.specs.declared.shape.Shape.{Shape as Held}
use Rattle.thumb_asm.specs.Outputs.{Finds}
use Rattle.thumb_asm.specs.Views.{shape_of}
use Rattle.thumb_asm.proofs.shape.insn_at.Goals as goal

pub returns-in-Filled : goal.returns-in-Filled
returns-in-Filled c = subst (λ (s : Held). Finds c.filled.result (insn_at (env_in c.args.names.now.labels.now c.args.names.now.symbols.now) c.args.at (shape_of s))) (sym c.in-Filled.is) c.filled.ensures

pub returns-in-Within : goal.returns-in-Within
returns-in-Within c = subst (λ (s : Held). Finds c.within.result (insn_at (env_in c.args.names.now.labels.now c.args.names.now.symbols.now) c.args.at (shape_of s))) (sym c.in-Within.is) c.within.ensures

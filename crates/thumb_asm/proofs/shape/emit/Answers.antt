use Rattle.std.proofs.Common.{◌≡◌, sym, subst, OnOk, false}
use Rattle.thumb_asm.specs.Passes.{env_in}
use Rattle.thumb_asm.specs.Kinds.{good_text}
use Rattle.thumb_asm.specs.Outputs.{Gave}
use Rattle.thumb_asm.specs.declared.shape.Shape.{Shape as Held}
use Rattle.thumb_asm.specs.Sizes.{padding}
use Rattle.thumb_asm.specs.Views.{shape_of}
use Rattle.thumb_asm.proofs.Coding.{gave_text, gave_zeros, gave_padding}
use Rattle.thumb_asm.proofs.shape.emit.Goals as goal

pub returns-in-Text-clause-ok : goal.returns-in-Text-clause-ok
returns-in-Text-clause-ok c = subst (λ (s : Held). OnOk c.push.result (Gave (env_in c.args.names.now.labels.now c.args.names.now.symbols.now) c.args.at (shape_of s) c.args.out.now.items c.push.new.out.items)) (sym c.in-Text.is) (gave_text (env_in c.args.names.now.labels.now c.args.names.now.symbols.now) c.args.at (good_text false c.in-Text.text.now) c.args.out.now.items c.push.new.out.items c.push.result c.push.ensures.ok)

pub returns-in-Zeros-clause-ok : goal.returns-in-Zeros-clause-ok
returns-in-Zeros-clause-ok c = subst (λ (s : Held). OnOk c.push_zeros.result (Gave (env_in c.args.names.now.labels.now c.args.names.now.symbols.now) c.args.at (shape_of s) c.args.out.now.items c.push_zeros.new.out.items)) (sym c.in-Zeros.is) (gave_zeros (env_in c.args.names.now.labels.now c.args.names.now.symbols.now) c.args.at c.in-Zeros.piece.now c.args.out.now.items c.push_zeros.new.out.items _ c.push_zeros.result c.zeros.ensures c.push_zeros.ensures.ok)

pub returns-in-Padding-clause-ok : goal.returns-in-Padding-clause-ok
returns-in-Padding-clause-ok c = subst (λ (s : Held). OnOk c.push_zeros-in-Padding.result (Gave (env_in c.args.names.now.labels.now c.args.names.now.symbols.now) c.args.at (shape_of s) c.args.out.now.items c.push_zeros-in-Padding.new.out.items)) (sym c.in-Padding.is) (gave_padding (env_in c.args.names.now.labels.now c.args.names.now.symbols.now) c.args.at c.in-Padding.piece.now c.args.out.now.items c.push_zeros-in-Padding.new.out.items _ c.push_zeros-in-Padding.result (subst (λ n. c.padding.result ≡ padding c.args.at n) c.zeros-in-Padding.ensures c.padding.ensures) c.push_zeros-in-Padding.ensures.ok)

use Rattle.std.proofs.Common.{sym, ◌∙◌, ap, Ok, option_map}
use Rattle.thumb_asm.specs.Parts.{Parts}
use Rattle.thumb_asm.specs.Sizes.{statement_of}
use Rattle.thumb_asm.specs.Passes.{env_in}
use Rattle.thumb_asm.specs.Views.{shape_of, shown}
use Rattle.thumb_asm.proofs.Passing.{emitted_by, emitted_none, emitted_err}
use Rattle.thumb_asm.proofs.passes.emit_line.Goals as goal

pub returns-in-Some-clause-ok : goal.returns-in-Some-clause-ok
returns-in-Some-clause-ok c = emitted_by (env_in c.args.names.now.labels.now c.args.names.now.symbols.now) c.args.at c.args.line.now c.args.out.now.items c.emit.new.out.items (shape_of c.in-Some.shape) c.emit.result (ap (λ (p : Parts). statement_of p.statement) (sym c.line_of.ensures) ∙ sym c.statement.ensures.value ∙ ap shown c.in-Ok.is ∙ ap (λ o. Ok (option_map shape_of o)) c.in-Some.is) c.emit.ensures.ok

pub returns-in-None-clause-ok : goal.returns-in-None-clause-ok
returns-in-None-clause-ok c = emitted_none _ c.args.at c.args.line.now c.args.out.now.items (ap (λ (p : Parts). statement_of p.statement) (sym c.line_of.ensures) ∙ sym c.statement.ensures.value ∙ ap shown c.in-Ok.is ∙ ap (λ o. Ok (option_map shape_of o)) c.in-None.is)

pub returns-in-Err-clause-ok : goal.returns-in-Err-clause-ok
returns-in-Err-clause-ok c = emitted_err _ c.args.at c.args.line.now c.args.out.now.items c.in-Err.field-0 (ap (λ (p : Parts). statement_of p.statement) (sym c.line_of.ensures) ∙ sym c.statement.ensures.value ∙ ap shown c.in-Err.is)

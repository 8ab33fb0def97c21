use Rattle.std.proofs.Common.{ap, ◌∙◌, sym, Ok}
use Rattle.thumb_insn.specs.Range.{insn_of}
use Rattle.thumb_encode.proofs.Both.{code_back}
use Rattle.thumb_encode.proofs.Decodes.{decodes, again, narrow_again, wide_again, sized}
use Rattle.thumb_encode.specs.Codes.{code_size}
use Rattle.thumb_encode.proofs.encode.Goals as goal

pub returns-in-None-clause-coded : goal.returns-in-None-clause-coded
returns-in-None-clause-coded c = ap insn_of c.code.ensures.value ∙ code_back c.args.insn.now c.code.ensures.lists (sym c.in-None.ensures)

pub returns-in-None-clause-decoded : goal.returns-in-None-clause-decoded
returns-in-None-clause-decoded c = decodes c.args.insn.now c.code.result c.code.ensures.halfwords (ap insn_of c.code.ensures.value ∙ code_back c.args.insn.now c.code.ensures.lists (sym c.in-None.ensures))

pub returns-in-None-clause-only : goal.returns-in-None-clause-only
returns-in-None-clause-only c = λ d k e. let w = again c.args.insn.now d k e in ap Ok (c.code.ensures.value ∙ w.1)

pub returns-in-Some-clause-only : goal.returns-in-Some-clause-only
returns-in-Some-clause-only c = λ d k e. let w = again c.args.insn.now d k e in let f = c.in-Some.ensures in absurd cc

pub returns-in-None-clause-undoes_narrow : goal.returns-in-None-clause-undoes_narrow
returns-in-None-clause-undoes_narrow c = λ h second f e. let w = narrow_again c.args.insn.now h second f e in ap Ok (c.code.ensures.value ∙ w.1)

pub returns-in-Some-clause-undoes_narrow : goal.returns-in-Some-clause-undoes_narrow
returns-in-Some-clause-undoes_narrow c = λ h second f e. let w = narrow_again c.args.insn.now h second f e in let g = c.in-Some.ensures in absurd cc

pub returns-in-None-clause-undoes_wide : goal.returns-in-None-clause-undoes_wide
returns-in-None-clause-undoes_wide c = λ first second f s e. let w = wide_again c.args.insn.now first second f s e in ap Ok (c.code.ensures.value ∙ w.1)

pub returns-in-Some-clause-undoes_wide : goal.returns-in-Some-clause-undoes_wide
returns-in-Some-clause-undoes_wide c = λ first second f s e. let w = wide_again c.args.insn.now first second f s e in let g = c.in-Some.ensures in absurd cc

pub returns-in-None-clause-size : goal.returns-in-None-clause-size
returns-in-None-clause-size c = ap code_size c.code.ensures.value ∙ sized c.args.insn.now

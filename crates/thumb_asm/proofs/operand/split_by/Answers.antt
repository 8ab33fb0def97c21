use Rattle.std.proofs.Common.{◌∷◌, [], ◌+◌, sym, ◌∙◌, arith, ap, map, drop}
use Rattle.thumb_asm.specs.Chars.{strip}
use Rattle.thumb_asm.specs.Operands.{stripped_by}
use Rattle.thumb_asm.proofs.Strips.{take_all}
use Rattle.thumb_asm.proofs.Commas.{split_start, split_step, split_found, split_none}
use Rattle.thumb_asm.proofs.operand.split_by.Goals as goal

pub loop-i-init : goal.loop-i-init
loop-i-init c = split_start c.args.mark c.args.text.now

pub returns-then-c-mark-clause-cuts : goal.returns-then-c-mark-clause-cuts
returns-then-c-mark-clause-cuts c =
    let i = c.loop-i.i in
    ap (map strip) (split_found c.args.mark c.args.text.now i (omega arith) c.if-c-mark.true c.loop-i.invariant)
    ∙ ap (λ t. t ∷ stripped_by c.args.mark (drop (i + 1) c.args.text.now)) (sym c.strip.ensures)
    ∙ ap (λ t. c.strip.result.now ∷ stripped_by c.args.mark t) (sym (take_all c.args.text.now (i + 1)))

pub loop-i-preserved : goal.loop-i-preserved
loop-i-preserved c = split_step c.args.mark c.args.text.now c.loop-i.i (omega arith) c.if-c-mark.false c.loop-i.invariant

pub returns-clause-cuts : goal.returns-clause-cuts
returns-clause-cuts c = ap (map strip) (split_none c.args.mark c.args.text.now c.loop-i.i (omega arith) c.loop-i.invariant) ∙ ap (λ t. t ∷ []) (sym c.strip-2.ensures)

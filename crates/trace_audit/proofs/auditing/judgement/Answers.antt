use Rattle.std.proofs.Common.{sym, ◌∙◌, subst, map, true, false}
use Rattle.trace_audit.specs.Midway.{IsGoodSoFar}
use Rattle.trace_audit.specs.Meaning.{read}
use Rattle.trace_audit.proofs.Taking.{good_start, good_more, first_bad, good_end, no_end, adds_so}
use Rattle.trace_audit.proofs.auditing.judgement.Goals as goal

pub loop-line-init : goal.loop-line-init
loop-line-init c = subst (λ r. IsGoodSoFar c.args.text.now r 0 c.new-book.result) (sym c.of-lines.ensures) (good_start c.args.text.now c.new-book.result c.new-book.ensures)

pub loop-line-preserved : goal.loop-line-preserved
loop-line-preserved c =
    let h = c.loop-line.invariant in
    let lines = map read h.taken.done in
    good_more c.args.text.now c.loop-line.lines.rest.now c.next.new.self.rest.now c.in-Some.line.now c.loop-line.number c.in-Some.ensures.line c.loop-line.book c.add.new.self c.in-Some.ensures.shorter h
    (adds_so lines (read c.in-Some.line.now) c.read.result c.add.new.self c.in_ok-good.good true c.read.ensures c.if-not-good.false (c.in_ok-good.ensures lines h.kept))

pub returns-then-not-good : goal.returns-then-not-good
returns-then-not-good c =
    let h = c.loop-line.invariant in
    let lines = map read h.taken.done in
    first_bad c.args.text.now c.loop-line.lines.rest.now c.next.new.self.rest.now c.in-Some.line.now c.loop-line.number c.in-Some.ensures.line c.loop-line.book c.add.new.self h
    (adds_so lines (read c.in-Some.line.now) c.read.result c.add.new.self c.in_ok-good.good false c.read.ensures c.if-not-good.true (c.in_ok-good.ensures lines h.kept))

pub returns-then-has_ended : goal.returns-then-has_ended
returns-then-has_ended c = good_end c.args.text.now c.loop-line.lines.rest.now c.loop-line.number c.in_default.ensures.end c.loop-line.book c.offered.result c.left.result c.loop-line.invariant (sym c.has_ended.ensures ∙ c.if-has_ended.true) c.offered.ensures c.left.ensures

pub returns : goal.returns
returns c = no_end c.args.text.now c.loop-line.lines.rest.now c.loop-line.number c.in_default.ensures.end c.loop-line.book c.loop-line.invariant (sym c.has_ended.ensures ∙ c.if-has_ended.false)

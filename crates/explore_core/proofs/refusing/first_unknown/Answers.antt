use Rattle.std.proofs.Common.{◌∙◌, ◌≡◌, true, ap, sym}
use Rattle.std.proofs.lemmas.List.Elements.{All-more, All-nil}
use Rattle.run_question.specs.declared.question.Stated.{Stated}
use Rattle.explore_core.specs.Refusals.{has_all_of}
use Rattle.explore_core.proofs.Refused.{first_line, no_line}
use Rattle.explore_core.proofs.refusing.first_unknown.Goals as goal

pub loop-stated-init : goal.loop-stated-init
loop-stated-init g c = λ x s st. All-nil (λ (w : Stated). has_all_of s w.property ≡ true)

pub loop-stated-preserved : goal.loop-stated-preserved
loop-stated-preserved g c = λ x s st.
    let i = c.loop-stated in
    All-more (λ (w : Stated). has_all_of s w.property ≡ true) c.args.properties.now i.stated-index c.stated-item.result c.loop-stated-test.true (i.invariant x s st)
    (ap (λ (w : Stated). has_all_of s w.property) (sym c.stated-item.is) ∙ sym (c.has_all_of.ensures x s st) ∙ c.if-not-has_all_of.false)

pub returns-then-not-has_all_of : goal.returns-then-not-has_all_of
returns-then-not-has_all_of g c = λ x s st.
    let i = c.loop-stated in
    first_line s c.args.properties.now i.stated-index c.stated-item.result c.loop-stated-test.true c.stated-item.is (i.invariant x s st) (sym (c.has_all_of.ensures x s st) ∙ c.if-not-has_all_of.true)

pub returns : goal.returns
returns g c = λ x s st. no_line s c.args.properties.now c.loop-stated.stated-index c.loop-stated-test.false (c.loop-stated.invariant x s st)

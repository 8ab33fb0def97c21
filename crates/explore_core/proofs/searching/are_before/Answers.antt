use Rattle.std.proofs.Common.{◌+◌, ◌<◌, List, subst, arith}
use Rattle.std.specs.List.{All}
use Rattle.std.proofs.lemmas.List.{take_all}
use Rattle.std.proofs.lemmas.List.Elements.{All-map, All-more, All-nil}
use Rattle.run_question.specs.declared.question.Offer as code
use Rattle.run_question.specs.Questions.{Offer, offer_data}
use Rattle.explore_core.proofs.searching.are_before.Goals as goal

pub loop-offer-init : goal.loop-offer-init
loop-offer-init c = All-nil (λ (o : code.Offer). c.args.from + o.turn < c.args.turn)

pub loop-offer-preserved : goal.loop-offer-preserved
loop-offer-preserved c =
    let i = c.loop-offer in
    let P = λ (o : code.Offer). c.args.from + o.turn < c.args.turn in
    let here : P c.offer-item.result = omega (arith, c.if-turn-from.false, c.if-turn-from-2.false) in
    All-more P c.args.offers.now i.offer-index c.offer-item.result c.loop-offer-test.true i.invariant (subst P c.offer-item.is here)

pub returns : goal.returns
returns c = λ is.
    let P = λ (o : code.Offer). c.args.from + o.turn < c.args.turn in
    All-map (λ (o : Offer). c.args.from + o.turn < c.args.turn) offer_data c.args.offers.now
    (subst (λ (l : List code.Offer). All P l) (take_all c.loop-offer.offer-index c.args.offers.now c.loop-offer-test.false) c.loop-offer.invariant)

use Rattle.std.proofs.Common.{◌∙◌, ◌==◌, List, length, get_or, count_by, map, ap, arith}
use Rattle.std.proofs.lemmas.List.{length-map}
use Rattle.run_question.specs.declared.question.Offer.{Offer}
use Rattle.run_question.specs.Questions.{offer_data}
use Rattle.run_question.specs.Questions as said
use Rattle.explore_core.proofs.Turns.{best_of_all, best_on, most_within, turns_of}
use Rattle.explore_core.proofs.refusing.most_offered.Goals as goal

pub loop-offer-preserved : goal.loop-offer-preserved
loop-offer-preserved c =
    let i = c.loop-offer in
    let offers = c.args.arrival.now.offers.items in
    let value = c.deref-offer-items.ensures.value in
    best_on offers i.offer-index i.most c.count_of.result c.max-most.result c.offer-item.result
    (omega (arith, c.loop-offer-test.true, ap (λ (l : List Offer). length l) value)) (c.offer-item.is ∙ ap (λ (l : List Offer). get_or l i.offer-index c.offer-item.result) value) i.invariant
    (c.count_of.ensures.count ∙ ap (count_by (λ (o : Offer). o.turn == c.offer-item.result.turn)) c.deref.ensures.value) c.max-most.ensures

pub returns-clause-most : goal.returns-clause-most
returns-clause-most c =
    best_of_all c.args.arrival.now.offers.items c.loop-offer.offer-index c.loop-offer.most c.loop-offer.invariant (omega (arith, c.loop-offer-test.false, ap (λ (l : List Offer). length l) c.deref-offer-items.ensures.value))

pub returns-clause-few : goal.returns-clause-few
returns-clause-few c =
    let offers = c.args.arrival.now.offers.items in
    let all = best_of_all offers c.loop-offer.offer-index c.loop-offer.most c.loop-offer.invariant (omega (arith, c.loop-offer-test.false, ap (λ (l : List Offer). length l) c.deref-offer-items.ensures.value)) in
    omega (arith, all, most_within (turns_of offers), length-map (map offer_data offers) (λ (o : said.Offer). o.turn))

use Rattle.std.proofs.Common.{◌*◌, ◌∙◌, ap, arith, map}
use Rattle.run_question.specs.Drafts.{capped}
use Rattle.run_question.specs.Questions.{offer_data}
use Rattle.run_question.specs.Reading.{choice_count}
use Rattle.run_question.proofs.Counting.{choices_end, choices_more}
use Rattle.run_question.proofs.schedules.times_choices.Goals as goal

pub loop-offer-preserved : goal.loop-offer-preserved
loop-offer-preserved c =
    choices_more 1000000000000000000 (capped 1000000000000000000 (c.args.count * choice_count (map offer_data c.args.offers.now))) c.loop-offer.product c.times-product.result c.loop-offer.offer-index c.args.offers.now c.offer-item.result
    (omega arith) c.offer-item.is c.loop-offer.invariant (c.times-product.ensures ∙ ap (λ n. capped 1000000000000000000 (c.loop-offer.product * n)) (c.len.ensures ∙ c.offer-item.result.events.ok.0))

pub returns : goal.returns
returns c =
    choices_end 1000000000000000000 (capped 1000000000000000000 (c.args.count * choice_count (map offer_data c.args.offers.now))) c.loop-offer.product c.times.result c.loop-offer.offer-index c.args.offers.now
    (omega arith) c.loop-offer.invariant c.times.ensures

use Rattle.std.proofs.Common.{◌∙◌, ◌+◌, ◌-◌, List, ap, sym}
use Rattle.std.specs.List.{list_any}
use Rattle.run_question.specs.declared.question.Offer.{Offer}
use Rattle.run_question.specs.Questions.{offer_data}
use Rattle.run_question.specs.Questions as said
use Rattle.explore_core.specs.Refusals.{is_late}
use Rattle.explore_core.proofs.Refused.{any_mapped}
use Rattle.explore_core.proofs.refusing.may_be_late.Goals as goal

pub returns : goal.returns
returns c =
    let below = c.args.arrival.now.below in
    c.is_any_late.ensures
    ∙ ap (λ (l : List Offer). list_any (λ (o : Offer). is_late (below - 1 + o.turn)) l) c.deref.ensures.value
    ∙ sym (any_mapped (λ (o : said.Offer). is_late (below - 1 + o.turn)) offer_data c.args.arrival.now.offers.items)

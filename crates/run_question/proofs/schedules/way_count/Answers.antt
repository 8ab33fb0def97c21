use Rattle.std.proofs.Common.{◌*◌, ◌-◌, ◌∙◌, ap, List, map}
use Rattle.run_question.specs.Drafts.{capped}
use Rattle.run_question.specs.Questions.{offer_data}
use Rattle.run_question.specs.Reading.{choice_count, once_if}
use Rattle.run_question.specs.declared.question.Offer as offer_code
use Rattle.run_question.proofs.Counting.{capped_plus}
use Rattle.run_question.proofs.schedules.way_count.Goals as goal

pub returns : goal.returns
returns c =
    let a = c.args.arrival.now in
    let chosen =
    c.times_choices.ensures
    ∙ ap (λ n. capped 1000000000000000000 (n * choice_count (map offer_data c.deref.result.now))) (c.from-turns.ensures ∙ c.saturating_sub.ensures)
    ∙ ap (λ (l : List offer_code.Offer). capped 1000000000000000000 ((a.below - a.first) * choice_count (map offer_data l))) c.deref.ensures.value in
    capped_plus 1000000000000000000 c.times_choices.result ((a.below - a.first) * choice_count (map offer_data a.offers.items)) (once_if a.may_fail) c.with_none.result chosen c.with_none.ensures

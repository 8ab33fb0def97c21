use Rattle.std.proofs.Common.{◌≡◌, ◌*◌, map, drop}
use Rattle.run_question.specs.Questions.{offer_data}
use Rattle.run_question.specs.Reading.{choice_count}
use Rattle.explore_core.proofs.laying.choice_count.Given as goal

abbrev pub invariant-loop-offer : goal.invariant-loop-offer
invariant-loop-offer l = l.count * choice_count (map offer_data (drop l.offer-index l.offers)) ≡ choice_count (map offer_data l.offers)

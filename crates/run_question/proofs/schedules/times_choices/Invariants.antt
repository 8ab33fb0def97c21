use Rattle.std.proofs.Common.{◌≡◌, ◌*◌, drop, map}
use Rattle.run_question.specs.Drafts.{capped}
use Rattle.run_question.specs.Questions.{offer_data}
use Rattle.run_question.specs.Reading.{choice_count}
use Rattle.run_question.proofs.schedules.times_choices.Given as goal

abbrev pub invariant-loop-offer : goal.invariant-loop-offer
invariant-loop-offer l = capped 1000000000000000000 (l.fn.count * choice_count (map offer_data l.offers)) ≡ capped 1000000000000000000 (l.product * choice_count (map offer_data (drop l.offer-index l.offers)))

use Rattle.std.proofs.Common.{◌+◌, ◌<◌, take}
use Rattle.std.specs.List.{All}
use Rattle.run_question.specs.declared.question.Offer as code
use Rattle.explore_core.proofs.searching.are_before.Given as goal

abbrev pub invariant-loop-offer : goal.invariant-loop-offer
invariant-loop-offer l = All (λ (o : code.Offer). l.from + o.turn < l.turn) (take l.offer-index l.offers)

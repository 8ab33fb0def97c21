use Rattle.std.proofs.Common.{◌≡◌, ◌≤◌, ◌==◌, count_by, take}
use Rattle.run_question.specs.declared.question.Offer.{Offer}
use Rattle.explore_core.proofs.refusing.count_of.Given as goal

abbrev pub invariant-loop-offer : goal.invariant-loop-offer
invariant-loop-offer l = record {
  counted : l.count ≡ count_by (λ (o : Offer). o.turn == l.turn) (take l.offer-index l.offers);
  few : l.count ≤ l.offer-index;
}

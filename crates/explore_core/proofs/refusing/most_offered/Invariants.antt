use Rattle.std.proofs.Common.{◌≡◌, take}
use Rattle.explore_core.specs.Refusals.{times_in}
use Rattle.explore_core.proofs.Turns.{best, turns_of}
use Rattle.explore_core.proofs.refusing.most_offered.Given as goal

abbrev pub invariant-loop-offer : goal.invariant-loop-offer
invariant-loop-offer l = l.most ≡ best (times_in (turns_of l.arrival.offers.items)) 0 (take l.offer-index (turns_of l.arrival.offers.items))

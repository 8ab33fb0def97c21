use Rattle.std.proofs.Common.{◌≡◌, ◌+◌, ℕ, map, drop, length}
use Rattle.std.specs.List.{All}
use Rattle.run_question.specs.Questions.{offer_data}
use Rattle.run_question.specs.Reading.{choice_count}
use Rattle.run_script.specs.Events.{script_data}
use Rattle.run_script.specs.Laying.{HasRoom}
use Rattle.explore_core.specs.Fine.{IsFineOffer}
use Rattle.explore_core.proofs.Chosen.{events_from}
use Rattle.explore_core.proofs.Listing.{IsLaidBefore}
use Rattle.explore_core.proofs.laying.lay_arrival.Given as goal

abbrev pub invariant-loop-offer : goal.invariant-loop-offer
invariant-loop-offer l = record {
  fine : All IsFineOffer (map offer_data l.offer-items);
  weight : l.weight ≡ choice_count (map offer_data (drop l.offer-index l.offer-items));
  laid : IsLaidBefore (script_data l.laid) (script_data l.fn.laid) (events_from l.offer-items l.way.turn l.way.choice l.offer-index) (events_from l.offer-items l.way.turn l.way.choice 0);
  place : HasRoom l.laid (length (script_data l.laid).events + length (events_from l.offer-items l.way.turn l.way.choice l.offer-index));
  room : (n : ℕ) → HasRoom l.fn.laid n → HasRoom l.laid n;
}

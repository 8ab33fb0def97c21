-- What is so of each question that was read (docs/EXPLORE.md, Question).
use Rattle.std.specs.Prelude.{◌<◌, ◌≤◌, length, sum_by}
use Rattle.std.specs.List.{All}
use Rattle.run_script.specs.declared.events.Event.{Event}
use Rattle.run_script.specs.Facts.{HasDevice, HasLine}
use Rattle.run_question.specs.Questions.{Arrival, Offer, Question}
use Rattle.run_question.specs.Reading.{choice_count, schedule_count}

abbrev pub IsKnown : Event → Type 0
IsKnown event = HasLine event × HasDevice event

pub record IsFineOffer (o : Offer) : Type 0 where
  pub turn : o.turn < 1000000000
  pub some : 0 < length o.events
  pub known : All IsKnown o.events

pub record IsFineArrival (a : Arrival) : Type 0 where
  pub range : a.first < a.below
  pub below : a.below ≤ 1000000000
  pub some : 0 < length a.offers
  pub offers : All IsFineOffer a.offers
  pub few : choice_count a.offers ≤ 1000000000000000000

pub record IsFine (q : Question) : Type 0 where
  pub arrivals : length q.arrivals ≤ 8
  pub properties : length q.properties ≤ 16
  pub each : All IsFineArrival q.arrivals
  pub events : sum_by (λ a. length a.offers) q.arrivals ≤ 256
  pub few : schedule_count q.arrivals ≤ 1000000000000000000

-- What a question is: arrivals, and properties with their words (docs/EXPLORE.md, Question).
use Rattle.std.specs.Prelude.{ℕ, Bool, List, map}
use Rattle.run_script.specs.declared.events.Event.{Event}
use Rattle.run_question.specs.declared.asked.Property.{Property}
use Rattle.run_question.specs.declared.question.Offer as offer_code
use Rattle.run_question.specs.declared.question.Arrival as arrival_code
use Rattle.run_question.specs.declared.question.Stated as stated_code
use Rattle.run_question.specs.declared.question.Question as question_code

-- so many turns behind the arrival there is one of some events
pub record Offer : Type 0 where
  pub turn : ℕ
  pub events : List Event

-- what comes once, in some turn of a range; or perhaps not at all
pub record Arrival : Type 0 where
  pub first : ℕ
  pub below : ℕ
  pub may_fail : Bool
  pub offers : List Offer

-- a property, with its words and its line
pub record Stated : Type 0 where
  pub line : ℕ
  pub words : List ℕ
  pub property : Property

pub record Question : Type 0 where
  pub arrivals : List Arrival
  pub properties : List Stated

-- ---- what the code's types say

abbrev pub offer_data : offer_code.Offer → Offer
offer_data o = record { turn = o.turn; events = o.events.items }

abbrev pub arrival_data : arrival_code.Arrival → Arrival
arrival_data a = record { first = a.first; below = a.below; may_fail = a.may_fail; offers = map offer_data a.offers.items }

abbrev pub stated_data : stated_code.Stated → Stated
stated_data s = record { line = s.line; words = s.words.items; property = s.property }

abbrev pub question_data : question_code.Question → Question
question_data q = record { arrivals = map arrival_data q.arrivals.items; properties = map stated_data q.properties.items }

-- What may come from outside besides a script, and the schedules of it (docs/EXPLORE.md, Question).
use Rattle.std.specs.Prelude.{ℕ, ◌-◌, ◌*◌, if◌then◌else◌, List, [], ◌∷◌, ◌++◌, length, map, Option, Some, None}
use Rattle.std.specs.List.{flat_map, range_with_len}
use Rattle.run_script.specs.Scripts.{Listed}
pub use Rattle.run_question.specs.Questions.{Arrival, Offer}
use Rattle.board_model.specs.Laid.{postponed, with_script}
use Rattle.board_model.specs.Script.{Scenario}

-- an arrival that comes: in which turn, and with which events, whose turns count from it
pub record Coming : Type 0 where
  pub turn : ℕ
  pub events : List Listed

-- of each arrival how it comes; or that it does not
abbrev pub Schedule : Type 0
Schedule = List (Option Coming)

-- one event of each offer, in each choice; the last offer changes first
unfoldable pub choices : List Offer → List (List Listed)
choices [] = [] ∷ []
choices (offer ∷ rest) = flat_map (λ event. map (λ more. (offer.turn, event) ∷ more) (choices rest)) offer.events

-- in one turn, with each choice
abbrev pub comings : Arrival → ℕ → List Coming
comings a turn = map (λ events. record { turn = turn; events = events }) (choices a.offers)

-- in each turn of its range
abbrev pub all_comings : Arrival → List Coming
all_comings a = flat_map (comings a) (range_with_len a.first (a.below - a.first))

-- each way in which it comes, or does not
abbrev pub ways : Arrival → List (Option Coming)
ways a = (if a.may_fail then None ∷ [] else []) ++ map (λ c. Some c) (all_comings a)

-- one way of each arrival
unfoldable pub schedules : List Arrival → List Schedule
schedules [] = [] ∷ []
schedules (a ∷ rest) = flat_map (λ way. map (λ more. way ∷ more) (schedules rest)) (ways a)

-- how many schedules there are
unfoldable pub how_many : List Arrival → ℕ
how_many [] = 1
how_many (a ∷ rest) = length (ways a) * how_many rest

-- ## the run of a schedule

abbrev pub events_of_way : Option Coming → List Listed
events_of_way None = []
events_of_way (Some c) = postponed c.turn c.events

abbrev pub events_of_schedule : Schedule → List Listed
events_of_schedule schedule = flat_map events_of_way schedule

-- the script's own events of a turn first, and then arrival after arrival
abbrev pub scheduled : Scenario → Schedule → Scenario
scheduled x schedule = with_script x (record x.script { events = x.script.events ++ events_of_schedule schedule })

-- How the arrivals of a question come, by their places: each in a turn and with one of its choices, or not at all.
use Rattle.std.specs.Prelude.{ℕ, ◌<◌, ◌+◌, ◌/◌, ◌%◌, ⊤, List, [], ◌∷◌, length, fold, slice_index_or, Option, Some, None}
use Rattle.std.specs.Option.{option_map}
use Rattle.run_script.specs.declared.events.Event.TheVariants.{Tick}
use Rattle.run_script.specs.Scripts.{Listed, ScriptData}
use Rattle.run_question.specs.Reading.{choice_count}
use Rattle.explore_core.specs.declared.ways.Way.{Way}
use Rattle.explore_core.specs.Answers.{listed_in}
use Rattle.explore_core.specs.Schedules.{Arrival, Coming, Offer, Schedule, events_of_schedule}

-- ## the choices of an arrival, by their numbers

-- the events of choice number `choice`: the last offer changes first
abbrev pub chosen : List Offer → ℕ → List Listed
chosen [] choice = []
chosen (offer ∷ rest) choice =
    (offer.turn, slice_index_or offer.events (choice / choice_count rest % length offer.events) Tick) ∷ chosen rest choice

-- ## the schedule of some ways

abbrev pub coming_of : Arrival → Way → Coming
coming_of a way = record { turn = way.turn; events = chosen a.offers way.choice }

-- of the arrival at a place
abbrev pub way_at : List (Option Way) → ℕ → Option Way
way_at ways place = slice_index_or ways place None

abbrev pub schedule_by : ℕ → List Arrival → List (Option Way) → Schedule
schedule_by place [] ways = []
schedule_by place (a ∷ rest) ways = option_map (coming_of a) (way_at ways place) ∷ schedule_by (place + 1) rest ways

-- the schedule of all arrivals
abbrev pub schedule_in : List Arrival → List (Option Way) → Schedule
schedule_in arrivals ways = schedule_by 0 arrivals ways

-- each way that comes has a choice that there is
abbrev pub IsWay : Arrival → Option Way → Type 0
IsWay a None = ⊤
IsWay a (Some way) = way.choice < choice_count a.offers

abbrev pub AreWays : ℕ → List Arrival → List (Option Way) → Type 0
AreWays place [] ways = ⊤
AreWays place (a ∷ rest) ways = IsWay a (way_at ways place) × AreWays (place + 1) rest ways

-- ## the script of a schedule

-- the events of a schedule, each behind those of its turn and of the turns before
abbrev pub laid_by : ScriptData → Schedule → ScriptData
laid_by script schedule = record script { events = fold listed_in script.events (events_of_schedule schedule) }

-- What is answered to a question: of each property whether all schedules keep it, and the first that does not (docs/EXPLORE.md, Exploration).
use Rattle.std.specs.Prelude.{ℕ, ◌≡◌, ◌==◌, Bool, nat_le, nat_lt, if◌then◌else◌, List, [], ◌∷◌, ◌++◌, length, map, filter, fold, codes, decimal, find, Contains, Option, Some, None, is_some}
use Rattle.std.specs.List.{flat_map, list_any}
use Rattle.std.specs.Option.{option_or}
use Rattle.run_script.specs.declared.events.Event.{Event}
use Rattle.run_script.specs.declared.events.Event.TheVariants.{Feed}
use Rattle.run_script.specs.Scripts.{Listed, ScriptData}
use Rattle.run_script.specs.Texts.{script_text}
pub use Rattle.run_question.specs.Questions.{Question, Stated}
use Rattle.board_model.specs.Script.{Scenario}
use Rattle.run_question.specs.declared.asked.Property.{Property}
use Rattle.explore_core.specs.Asked.{asks, broken_in}
use Rattle.explore_core.specs.Schedules.{Arrival, Coming, Offer, Schedule, events_of_schedule, how_many, scheduled, schedules}
use Rattle.explore_core.specs.Walked.{courses_of, schedule_of}

-- what is explored: a scenario, a question, and how many turns a run has at most
pub record Asking : Type 0 where
  pub scenario : Scenario
  pub question : Question
  pub limit : ℕ

-- ## what is so

-- the schedules in their order
abbrev pub in_order : Asking → List Schedule
in_order a = map (schedule_of a.question.arrivals) (courses_of a.question.arrivals)

-- in which turn a schedule breaks a property
abbrev pub breaks_in : Asking → Property → Schedule → Option ℕ
breaks_in a p schedule = broken_in p (scheduled a.scenario schedule) a.limit

-- the first schedule that does
abbrev pub first_broken : Asking → Property → Option Schedule
first_broken a p = find (λ schedule. is_some (breaks_in a p schedule)) (in_order a)

-- in some run it is asked
abbrev pub is_asked : Asking → Property → Bool
is_asked a p = list_any (λ schedule. asks p (scheduled a.scenario schedule) a.limit) (in_order a)

-- each schedule keeps a property, which may be said of the schedules in whatever order
abbrev pub AllKeep : Asking → Property → Type 0
AllKeep a p = (schedule : Schedule) → Contains (schedules a.question.arrivals) schedule → breaks_in a p schedule ≡ None

-- ## the text

-- `<turn>`, with `:<byte>` for each byte that is one of several
abbrev pub byte_word : Offer → Event → List ℕ
byte_word offer (Feed device byte) = if length offer.events == 1 then [] else codes ":" ++ decimal byte
byte_word offer _ = []

unfoldable pub byte_words : List Offer → List Listed → List ℕ
byte_words (offer ∷ offers) (event ∷ events) = byte_word offer event.1 ++ byte_words offers events
byte_words _ _ = []

abbrev pub way_word : Arrival → Option Coming → List ℕ
way_word a None = codes " -"
way_word a (Some c) = codes " " ++ decimal c.turn ++ byte_words a.offers c.events

unfoldable pub schedule_words : List Arrival → Schedule → List ℕ
schedule_words (a ∷ arrivals) (way ∷ ways) = way_word a way ++ schedule_words arrivals ways
schedule_words _ _ = []

-- `# broken <property>; turn <t>, arrivals <w> ..`
unfoldable pub broken_line : List ℕ → ℕ → List ℕ → List ℕ
broken_line words turn arrivals = codes "# broken " ++ words ++ codes "; turn " ++ decimal turn ++ codes ", arrivals" ++ arrivals ++ codes "\n"

unfoldable pub kept_line : Bool → List ℕ → List ℕ
kept_line asked words = (if asked then codes "# holds " else codes "# unasked ") ++ words ++ codes "\n"

-- the turn in which it is broken; there is one
abbrev pub turn_or_none : Option ℕ → ℕ
turn_or_none None = 0
turn_or_none (Some turn) = turn

abbrev pub answer_to : Asking → Stated → Option Schedule → List ℕ
answer_to a p None = kept_line (is_asked a p.property) p.words
answer_to a p (Some schedule) = broken_line p.words (turn_or_none (breaks_in a p.property schedule)) (schedule_words a.question.arrivals schedule)

-- ## the script of a schedule

-- a script with one event more, behind those of its turn and of the turns before, as its text lists them
abbrev pub listed_in : List Listed → Listed → List Listed
listed_in events d = filter (λ e. nat_le e.0 d.0) events ++ d ∷ filter (λ e. nat_lt d.0 e.0) events

-- the script of a schedule, in the order of its turns
abbrev pub ordered : Asking → Schedule → ScriptData
ordered a schedule = record a.scenario.script { events = fold listed_in a.scenario.script.events (events_of_schedule schedule) }

-- ## the whole answer

abbrev pub schedules_line : ℕ → List ℕ
schedules_line n = codes "# " ++ decimal n ++ codes " schedules\n"

-- the schedule of the first property that is broken
unfoldable pub first_of_all : Asking → List Stated → Option Schedule
first_of_all a [] = None
first_of_all a (p ∷ rest) = option_or (first_broken a p.property) (first_of_all a rest)

abbrev pub script_or_nothing : Asking → Option Schedule → List ℕ
script_or_nothing a None = []
script_or_nothing a (Some schedule) = script_text (ordered a schedule)

unfoldable pub explored_text : Asking → List ℕ
explored_text a =
    schedules_line (how_many a.question.arrivals)
    ++ flat_map (λ p. answer_to a p (first_broken a p.property)) a.question.properties
    ++ script_or_nothing a (first_of_all a a.question.properties)

abbrev pub is_any_broken : Asking → Bool
is_any_broken a = is_some (first_of_all a a.question.properties)

-- The text of an answer, from what was found as the code keeps it.
use Rattle.std.specs.Prelude.{ℕ, ◌≡◌, true, false, List, [], ◌∷◌, ◌++◌, Option, Some, None}
use Rattle.std.specs.Option.{option_or}
use Rattle.run_script.specs.Scripts.{ScriptData}
use Rattle.run_script.specs.Texts.{script_text}
use Rattle.run_question.specs.Questions.{Question, Stated}
use Rattle.board_model.specs.Laid.{is_script}
use Rattle.explore_core.specs.declared.found.Answer.{Answer}
use Rattle.explore_core.specs.declared.found.Answer.TheVariants.{Broken, Holds, Unasked}
use Rattle.explore_core.specs.declared.ways.Way.{Way}
use Rattle.explore_core.specs.Answers.{broken_line, kept_line, schedule_words, schedules_line}
use Rattle.explore_core.specs.Schedules.{Arrival, events_of_schedule, how_many}
use Rattle.explore_core.specs.Ways.{AreWays, laid_by, schedule_in}

-- the line of a property
abbrev pub answer_line : List Arrival → List ℕ → Answer → List ℕ
answer_line arrivals words Holds = kept_line true words
answer_line arrivals words Unasked = kept_line false words
answer_line arrivals words (Broken found) = broken_line words found.turn (schedule_words arrivals (schedule_in arrivals found.ways))

abbrev pub answer_lines : List Arrival → List Stated → List Answer → List ℕ
answer_lines arrivals (p ∷ properties) (answer ∷ answers) = answer_line arrivals p.words answer ++ answer_lines arrivals properties answers
answer_lines arrivals _ _ = []

abbrev pub ways_of : Answer → Option (List (Option Way))
ways_of Holds = None
ways_of Unasked = None
ways_of (Broken found) = Some found.ways

-- the schedule of the first property that is broken
abbrev pub first_ways : List Answer → Option (List (Option Way))
first_ways [] = None
first_ways (answer ∷ answers) = option_or (ways_of answer) (first_ways answers)

abbrev pub found_script : ScriptData → List Arrival → Option (List (Option Way)) → List ℕ
found_script script arrivals None = []
found_script script arrivals (Some ways) = script_text (laid_by script (schedule_in arrivals ways))

abbrev pub found_text : ScriptData → Question → List Answer → List ℕ
found_text script question answers =
    schedules_line (how_many question.arrivals)
    ++ (answer_lines question.arrivals question.properties answers
    ++ found_script script question.arrivals (first_ways answers))

-- some ways make a script
pub record AreLaid (script : ScriptData) (arrivals : List Arrival) (ways : List (Option Way)) : Type 0 where
  pub each : AreWays 0 arrivals ways
  pub listed : is_script (script.events ++ events_of_schedule (schedule_in arrivals ways)) ≡ true

-- A run as a picture (docs/FORMATS.md, Picture).
use Rattle.std.specs.Prelude.{ℕ, List, length, map, take}
use Rattle.board_model.specs.declared.outcomes.Level.TheVariants.{Calls as AtCalls}
use Rattle.board_model.specs.Run.{Run, run}
use Rattle.board_model.specs.Script.{Scenario}
use Rattle.board_run.specs.Text.{end_name}
use Rattle.lane_picture.specs.Drawing.{drawing_text, most_arrows}
use Rattle.lane_picture.specs.Sizes.{Drawn}
use Rattle.run_lanes.specs.Columns.{cells, column_turns, outside}
use Rattle.run_lanes.specs.First.{counted}
use Rattle.run_lanes.specs.Told.{all_arrows, all_events, calls_at_end, event_text, no_calls_of}
use Rattle.run_lanes.specs.Activities.{TurnSight, sights}
use Rattle.task_table.specs.model.State.{State}

-- what happened to tasks is written for the first ten faults and births
abbrev pub most_events : ℕ
most_events = 10

-- what is drawn of a run and of its turns, with these names of tasks
abbrev pub drawn : List ℕ → List (List ℕ) → Run → List TurnSight → Drawn
drawn title names r turns = record {
  title = title;
  ending = end_name r.end;
  turns = length turns;
  ticks = r.last.now;
  column_turns = column_turns (length turns);
  names = names;
  outside = outside turns;
  cells = cells (length names) turns;
  calls = calls_at_end (no_calls_of (length names)) turns;
  arrows = take most_arrows (all_arrows (no_calls_of (length names)) turns);
  all_arrows = counted (all_arrows (no_calls_of (length names)) turns);
  events = map (event_text names) (take most_events (all_events turns));
  all_events = counted (all_events turns);
}

-- the picture of the run from a state with at most this many turns
unfoldable pub picture_text : List ℕ → List (List ℕ) → Scenario → ℕ → State → List ℕ
picture_text title names x left s = drawing_text (drawn title names (run AtCalls x left s) (sights x left s))

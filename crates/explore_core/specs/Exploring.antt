-- Where an exploration is: on the way through all schedules, with a board before a turn, and with states from which nothing is broken that is still
-- looked for.
use Rattle.std.specs.Prelude.{ℕ, ◌≡◌, ◌<◌, ◌≤◌, ◌+◌, ◌-◌, ◌==◌, ⊤, true, List, [], ◌∷◌, ◌++◌, length, map, find, slice_index_or, Contains, Option, Some, None, is_some}
use Rattle.std.specs.Option.{option_map, option_or}
use Rattle.std.specs.List.{All, AllZip}
use Rattle.run_script.specs.Events.{script_data}
use Rattle.task_table.specs.model.State.{State}
use Rattle.board_model.specs.Laid.{is_script, with_script}
use Rattle.board_model.specs.SameScripts.{AreEquivalent}
use Rattle.board_core.specs.declared.board.Board.{Board}
use Rattle.board_core.specs.Data.{Shows}
use Rattle.board_core.specs.Stands.{Stands, script_of}
use Rattle.snapshot.specs.Loaded.{sites}
use Rattle.explore_core.specs.declared.verdict.Verdict.TheVariants.{Broken}
use Rattle.explore_core.specs.Answers.{Asking}
use Rattle.explore_core.specs.Over.{IsOver}
use Rattle.explore_core.specs.Schedules.{Arrival, Coming, Schedule, choices, scheduled, schedules}
use Rattle.explore_core.specs.Walked.{Course, Placed, comes_at, courses, courses_in, end_of, placed, schedule_of}
use Rattle.explore_core.specs.Verdicts.{broken_by}
use Rattle.explore_core.specs.Watching.{Judged, is_open}

-- ## before a turn

-- which arrivals have come, in their order; which of those that are still to come are passed over in this turn; and the others
pub record Fork : Type 0 where
  pub came : Course
  pub passed : List Placed
  pub rest : List Placed

abbrev pub pending : Fork → List Placed
pending f = f.passed ++ f.rest

-- the arrival that has a place
abbrev pub at_place : ℕ → List Placed → Option Placed
at_place place ps = find (λ p. p.0 == place) ps

-- arrivals in the order of their places, none of which is below a number
unfoldable pub Ascends : ℕ → List Placed → Type 0
Ascends low [] = ⊤
Ascends low (p ∷ ps) = (low ≤ p.0) × Ascends (p.0 + 1) ps

-- those that are to come stand in their order, and those that have come are others; each has an event
pub record IsFork (a : Asking) (f : Fork) : Type 0 where
  pub order : Ascends 0 (pending f)
  pub apart : All (λ c. at_place c.0 (pending f) ≡ None) f.came
  pub offered : All (λ p. 0 < length p.1.offers) (pending f)
  pub below : All (λ p. p.1.below ≤ end_of a.question.arrivals) (pending f)

-- the courses that go on from there: the rest may come in this turn, and those that are passed over later
abbrev pub onward : Asking → ℕ → Fork → List Course
onward a turn f = courses_in (courses (end_of a.question.arrivals - (turn + 1)) (turn + 1)) turn f.passed f.rest

-- the whole schedule of one of them
abbrev pub with_onward : Asking → Fork → Course → Schedule
with_onward a f more = schedule_of a.question.arrivals (f.came ++ more)

-- in which turn a schedule breaks a property, of a run that has come to a state in which so much is known of it
abbrev pub decided : Asking → Judged → State → Schedule → Option ℕ
decided a w s schedule = broken_by w.0 (scheduled a.scenario schedule) (a.limit - s.turn) w.1 s

-- the first of those that go on from there that does
abbrev pub first_onward : Asking → Fork → Judged → State → Option Schedule
first_onward a f w s = find (λ schedule. is_some (decided a w s schedule)) (map (with_onward a f) (onward a s.turn f))

-- ## the script of the board

-- an arrival that comes as late as it may
abbrev pub latest : Arrival → Coming
latest a = record { turn = a.below - 1; events = slice_index_or (choices a.offers) 0 [] }

-- those that came, as they did; the others that are to come, as late as they may
abbrev pub way_by : Course → List Placed → Placed → Option Coming
way_by came coming p = option_or (comes_at p.0 came) (option_map (λ q. latest q.1) (at_place p.0 coming))

abbrev pub ways_in : Asking → Fork → Schedule
ways_in a f = map (way_by f.came (pending f)) (placed a.question.arrivals 0)

-- each schedule is a script
abbrev pub AreScripts : Asking → Type 0
AreScripts a = (schedule : Schedule) → Contains (schedules a.question.arrivals) schedule → is_script (scheduled a.scenario schedule).script.events ≡ true

-- ## on the way

-- the board stands for this state, with a script in which those that are still to come come as late as they may
pub record IsOnWay {X : Type 0} {H : X → Type 0} (shown : Shows X H) (a : Asking) (f : Fork) (b : Board X H) (s : State) : Type 0 where
  pub fork : IsFork a f
  pub stands : Stands shown (with_script a.scenario (script_data (script_of b))) b s
  pub sites : sites s.devices ≡ sites a.scenario.devices
  pub script : AreEquivalent (script_data (script_of b)) (scheduled a.scenario (ways_in a f)).script

-- what is known of a property at u decides each schedule that goes on from s, as what was known of it there does
pub record IsAsBefore (a : Asking) (f : Fork) (s u : State) (old new : Judged) : Type 0 where
  pub property : new.0 ≡ old.0
  pub broken : (turn : ℕ) → old.1 ≡ Broken turn → new.1 ≡ Broken turn
  pub same : (more : Course) → Contains (onward a s.turn f) more → decided a old s (with_onward a f more) ≡ decided a new u (with_onward a f more)

-- the way goes on from s to u: the same schedules go on from there, and what is known decides the same
pub record GoesOnTo (a : Asking) (f g : Fork) (s u : State) (old new : List Judged) : Type 0 where
  pub came : g.came ≡ f.came
  pub onward : onward a u.turn g ≡ onward a s.turn f
  pub known : AllZip (IsAsBefore a f s u) old new

-- all that has come is over before a turn
abbrev pub IsOverBefore : ℕ → Course → Type 0
IsOverBefore turn came = All (λ c. IsOver turn (Some c.1)) came

-- ## back at a fork

-- the board is back at a fork: of what is still looked for as much is kept again
pub record IsBack (old now back : Judged) : Type 0 where
  pub looked : is_open now.1 ≡ true → back ≡ old
  pub broken : (turn : ℕ) → now.1 ≡ Broken turn → back ≡ now

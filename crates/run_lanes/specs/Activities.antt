-- What each task does in each turn (docs/FORMATS.md, What a task does in a turn; this project's own).
use Rattle.std.specs.Prelude.{ℕ, zero, suc, ◌==◌, Bool, false, List, [], ◌∷◌, length, map, if◌then◌else◌, Option, None, Some}
use Rattle.std.specs.List.{range_with_len}
use Rattle.kernel_abi.specs.declared.Health.{Health}
use Rattle.kernel_abi.specs.declared.Health.TheVariants as health
use Rattle.kernel_abi.specs.declared.Note.{Note}
use Rattle.task_table.specs.declared.slot.Wait.{Wait}
use Rattle.task_table.specs.declared.slot.Wait.TheVariants as wait
use Rattle.task_table.specs.model.State.{State}
use Rattle.task_table.specs.declared.slot.Phase.{Phase}
use Rattle.task_table.specs.declared.slot.Phase.TheVariants.{Offered, Taken}
use Rattle.task_table.specs.model.Reading.{task_at, call_of, listen_of}
use Rattle.task_table.specs.kept.Holds.{wait_of}
use Rattle.board_model.specs.declared.outcomes.Level.TheVariants.{Calls}
use Rattle.board_model.specs.declared.outcomes.Turned.{Turned}
use Rattle.board_model.specs.declared.outcomes.Turned.TheVariants.{Idle, Ran}
use Rattle.board_model.specs.declared.outcomes.End.{End}
use Rattle.board_model.specs.Script.{Scenario}
use Rattle.board_model.specs.Turn.{turn, turned}
use Rattle.board_model.specs.Run.{ending}
use Rattle.run_lanes.specs.declared.activity.Activity.{Activity}
use Rattle.run_lanes.specs.declared.activity.Activity.TheVariants as activity

abbrev pub phase_activity : Phase → Activity
phase_activity Offered = activity.Offers
phase_activity Taken = activity.Awaits

abbrev pub wait_activity : Wait → Activity
wait_activity wait.Nothing = activity.Ready
wait_activity (wait.Call call) = phase_activity call.phase
wait_activity (wait.Listen listen) = activity.Listens

abbrev pub activity_of : Health → Wait → Activity
activity_of health.Well w = wait_activity w
activity_of health.Stopped w = activity.Stopped
activity_of (health.Faulted fault) w = activity.Faulted

-- the number of an activity in their order, from 0 on
abbrev pub activity_number : Activity → ℕ
activity_number activity.Runs = 0
activity_number activity.Ready = 1
activity_number activity.Offers = 2
activity_number activity.Awaits = 3
activity_number activity.Listens = 4
activity_number activity.Faulted = 5
activity_number activity.Stopped = 6

abbrev pub is_same : Activity → Activity → Bool
is_same w v = activity_number w == activity_number v

-- what a task does in a state, if the turn is not its own
abbrev pub waiting : State → ℕ → Activity
waiting s i = activity_of (task_at s i).health (wait_of (call_of s i) (listen_of s i))

-- the turn is this task's
abbrev pub is_of : Turned → ℕ → Bool
is_of Idle i = false
is_of (Ran c at) i = c == i

-- what a task does in the turn that follows a state
abbrev pub activity_in : Scenario → State → ℕ → Activity
activity_in x s i = if is_of (turned x s) i then activity.Runs else waiting s i

unfoldable pub activities_in : Scenario → State → List Activity
activities_in x s = map (activity_in x s) (range_with_len 0 (length s.tasks))

-- what is seen of a turn
pub record TurnSight : Type 0 where
  pub turn : ℕ
  pub activities : List Activity
  pub notes : List Note

abbrev pub sight : Scenario → State → TurnSight
sight x s = record { turn = s.turn; activities = activities_in x s; notes = (turn Calls x s).notes }

-- this many turns from one on, in which the tasks do the same and nothing is noted
abbrev pub idle_turns : ℕ → ℕ → List Activity → List TurnSight
idle_turns turn turns activities = map (λ n. record { turn = n; activities = activities; notes = [] }) (range_with_len turn turns)

-- a turn that is made, unless the run ends before it
abbrev pub unless : Option End → TurnSight → List TurnSight → List TurnSight
unless (Some e) first more = []
unless None first more = first ∷ more

-- the turns of the run from a state, at most this many
unfoldable pub sights : Scenario → ℕ → State → List TurnSight
sights x zero s = []
sights x (suc left) s = unless (ending x (suc left) s) (sight x s) (sights x left (turn Calls x s).state)

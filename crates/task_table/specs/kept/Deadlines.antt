-- The tasks whose timers are set, as sets of their indices: one set for each remainder of a deadline. Time goes
-- round them (a timer wheel).
use Rattle.std.specs.Prelude.{ℕ, ◌≡◌, ◌<◌, ◌≤◌, ◌%◌, Bool, true, false, List, length, Option, Some, None, IfSome, slice_index_or}
use Rattle.kernel_abi.specs.declared.Timer.{Timer}
use Rattle.task_table.specs.declared.slot.Slot.{Slot}
use Rattle.task_table.specs.declared.task_set.TaskSet.{TaskSet}
use Rattle.task_table.specs.kept.Limits.{wheel_sets}
use Rattle.task_table.specs.model.State.{State}
use Rattle.task_table.specs.model.Reading.{task_at}
use Rattle.task_table.specs.kept.TaskSets.{has}
use Rattle.task_table.specs.kept.Readiness.{is_at}

-- the number of the set that a task with this timer is in
abbrev pub wheel_set : Option Timer → Option ℕ
wheel_set None = None
wheel_set (Some x) = Some (x.deadline % wheel_sets)

-- a task with this slot is in the set with a number
abbrev pub is_timed_at : ℕ → Slot → Bool
is_timed_at k slot = is_at k (wheel_set slot.timer)

-- each set has exactly the tasks whose timers are set to a deadline with its remainder
pub record AreTimed (slots : List Slot) (sets : List TaskSet) : Type 0 where
  pub count : length sets ≡ wheel_sets
  pub each : (k : ℕ) → k < length sets → (e : TaskSet) (i : ℕ) → i < length slots → (d : Slot) → has (slice_index_or sets k e).words i ≡ is_timed_at k (slice_index_or slots i d)
  pub no_others : (k : ℕ) → k < length sets → (e : TaskSet) (i : ℕ) → length slots ≤ i → has (slice_index_or sets k e).words i ≡ false

-- a set has each task whose timer is due now
abbrev pub HasDue : State → List ℕ → Type 0
HasDue s words = (i : ℕ) → i < length s.tasks → IfSome (task_at s i).timer (λ x. x.deadline ≡ s.now → has words i ≡ true)

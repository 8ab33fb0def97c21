-- What is shown of a state.
use Rattle.std.specs.Prelude.{ℕ, ◌≡◌, ◌%◌, ◌<◌, ◌≤◌, length, Option, Some, None}
use Rattle.std.specs.Option.{option_map}
use Rattle.task_table.specs.model.State.{State}
use Rattle.task_table.specs.model.Reading.{task_at, call_of, listen_of}
use Rattle.task_table.specs.kept.Holds.{wait_of}
use Rattle.board_core.specs.declared.views.TaskView.{TaskView}

-- the view has the parts of the task; past the last task there is no view
pub record IsTask (s : State) (i : ℕ) (v : TaskView) : Type 0 where
  pub inside : i < length s.tasks
  pub generation : v.generation ≡ (task_at s i).births % 64
  pub regs : v.regs ≡ (task_at s i).registers
  pub flags : v.flags ≡ (task_at s i).flags
  pub health : v.health ≡ (task_at s i).health
  pub posted : v.posted ≡ (task_at s i).posted
  pub timer : v.timer ≡ option_map (λ x. (x.deadline, x.bits)) (task_at s i).timer
  pub wait : v.wait ≡ wait_of (call_of s i) (listen_of s i)

abbrev pub IsView : State → ℕ → Option TaskView → Type 0
IsView s i None = length s.tasks ≤ i
IsView s i (Some v) = IsTask s i v

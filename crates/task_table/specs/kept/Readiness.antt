-- Which tasks are ready, and which offer a call to which server, by their slots.
use Rattle.std.specs.Prelude.{ℕ, ◌≡◌, ◌<◌, ◌≤◌, Bool, true, false, ◌&&◌, List, length, Option, Some, None, slice_index_or, ◌==◌, if◌then◌else◌}
use Rattle.kernel_abi.specs.Ids.{index_of}
use Rattle.task_table.specs.declared.slot.Slot.{Slot}
use Rattle.task_table.specs.declared.slot.Wait.{Wait}
use Rattle.task_table.specs.declared.slot.Wait.TheVariants as wait
use Rattle.task_table.specs.declared.task_set.TaskSet.{TaskSet}
use Rattle.task_table.specs.model.Reading.{is_well, is_offered}
use Rattle.task_table.specs.kept.TaskSets.{has}
use Rattle.task_table.specs.kept.Order.{has_task}

abbrev pub is_nothing : Wait → Bool
is_nothing (wait.Call c) = false
is_nothing (wait.Listen l) = false
is_nothing wait.Nothing = true

-- a task with this slot is ready
abbrev pub is_free : Slot → Bool
is_free slot = is_well slot.health && is_nothing slot.wait

-- the index of the server to which the call is offered
abbrev pub server_in : Wait → Option ℕ
server_in (wait.Call c) = if is_offered c.phase then Some (index_of c.server.number) else None
server_in (wait.Listen l) = None
server_in wait.Nothing = None

-- the number is there, and is this one
abbrev pub is_at : ℕ → Option ℕ → Bool
is_at k None = false
is_at k (Some index) = index == k

-- a task with this slot offers a call to a server
abbrev pub is_client_of : ℕ → Slot → Bool
is_client_of server slot = is_at server (server_in slot.wait)

-- a set of places has exactly the tasks whose slots pass a test
pub record AreThose (test : Slot → Bool) (slots : List Slot) (places words : List ℕ) : Type 0 where
  pub each : (i : ℕ) → i < length slots → (d : Slot) → has_task places words i ≡ test (slice_index_or slots i d)
  pub no_others : (p : ℕ) → length slots ≤ p → has words p ≡ false

-- for each server there is the set of the tasks that offer a call to it
pub record AreOffers (slots : List Slot) (places : List ℕ) (sets : List TaskSet) : Type 0 where
  pub count : length sets ≡ length slots
  pub each : (server : ℕ) → server < length sets → (d : TaskSet) → AreThose (is_client_of server) slots places (slice_index_or sets server d).words

use Rattle.std.proofs.Common.{◌≡◌, ◌<◌, ◌≤◌, ℕ, false, length}
use Rattle.std.specs.Prelude.{slice_index_or}
use Rattle.task_table.specs.kept.TaskSets.{has}
use Rattle.task_table.specs.kept.Order.{has_task}
use Rattle.task_table.specs.kept.Readiness.{is_free}
use Rattle.task_table.specs.declared.slot.Slot.{Slot}
use Rattle.task_table.proofs.readiness.ready_tasks.Given as goal

-- so far the set has those that are ready, and no place past the tasks
abbrev pub invariant-loop-task : goal.invariant-loop-task
invariant-loop-task l = record {
  before : (i : ℕ) → i < l.task → (d : Slot) → has_task l.order.places.items l.ready.words i ≡ is_free (slice_index_or l.slots i d);
  others : (p : ℕ) → length l.slots ≤ p → has l.ready.words p ≡ false;
}

use Rattle.std.proofs.Common.{◌≡◌, ◌<◌, ℕ, false, length}
use Rattle.std.specs.Prelude.{slice_index_or}
use Rattle.task_table.specs.kept.TaskSets.{has}
use Rattle.task_table.specs.declared.task_set.TaskSet.{TaskSet}
use Rattle.task_table.proofs.readiness.empty_sets.Given as goal

-- so many, and each is empty
abbrev pub invariant-loop : goal.invariant-loop
invariant-loop l = record {
  count : length l.sets.items ≡ l.counter;
  empty : (k i : ℕ) (d : TaskSet) → k < length l.sets.items → has (slice_index_or l.sets.items k d).words i ≡ false;
}

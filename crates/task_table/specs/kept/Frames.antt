-- How many notes an operation of the kernel adds. What the image fixes and the number of tasks do not change.
use Rattle.std.specs.Prelude.{ℕ, ◌≡◌, ◌≤◌, ◌+◌}
use Rattle.task_table.specs.declared.kernel.Kernel.{Kernel}
use Rattle.task_table.specs.kept.Holds.{setup_of, task_count, note_count}

-- exactly n notes
pub record AddsNotes (old : Kernel) (n : ℕ) (new : Kernel) : Type 0 where
  pub notes : note_count new ≡ note_count old + n
  pub tasks : task_count new ≡ task_count old
  pub setup : setup_of new ≡ setup_of old

-- at most n notes
pub record AddsAtMost (old : Kernel) (n : ℕ) (new : Kernel) : Type 0 where
  pub notes : note_count new ≤ note_count old + n
  pub tasks : task_count new ≡ task_count old
  pub setup : setup_of new ≡ setup_of old

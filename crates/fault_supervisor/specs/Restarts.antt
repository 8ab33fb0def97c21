-- How many notes a restart makes.
use Rattle.std.specs.Prelude.{ℕ, ◌+◌, ◌*◌}
use Rattle.task_table.specs.kept.Limits.{most_tasks}

-- at most the close of its call and the restart itself, and for each task the close of a call and its return
abbrev pub restart_notes : ℕ
restart_notes = 2 + 2 * most_tasks

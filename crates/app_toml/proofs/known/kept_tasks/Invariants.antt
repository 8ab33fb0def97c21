use Rattle.std.proofs.Common.{map, take}
use Rattle.app_toml.specs.Known.{Keeps}
use Rattle.app_toml.specs.Sites.{task_of}
use Rattle.app_toml.proofs.known.kept_tasks.Given as goal

abbrev pub invariant-loop-task : goal.invariant-loop-task
invariant-loop-task l = Keeps l.kept (map task_of (take l.task-index l.tasks))

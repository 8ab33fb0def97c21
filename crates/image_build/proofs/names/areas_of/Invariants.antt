use Rattle.std.proofs.Common.{◌≡◌, drop, map}
use Rattle.app_toml.specs.Crossed.{areas_of}
use Rattle.app_toml.specs.Sites.{task_of}
use Rattle.image_build.proofs.names.areas_of.Given as goal

abbrev pub invariant-loop-task : goal.invariant-loop-task
invariant-loop-task l =
    areas_of l.name (map task_of (drop l.task-index l.tasks)) ≡ areas_of l.name (map task_of l.tasks)

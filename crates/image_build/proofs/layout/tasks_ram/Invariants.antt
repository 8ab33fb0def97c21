use Rattle.std.proofs.Common.{◌≡◌, ◌++◌, drop, map}
use Rattle.app_toml.specs.Sites.{task_of}
use Rattle.image_build.proofs.layout.tasks_ram.Given as goal

abbrev pub invariant-loop-task : goal.invariant-loop-task
invariant-loop-task l =
    l.sizes.items ++ map (λ t. t.ram) (map task_of (drop l.task-index l.tasks)) ≡ map (λ t. t.ram) (map task_of l.tasks)

use Rattle.std.proofs.Common.{◌≡◌, ◌++◌, drop, map, string_bytes}
use Rattle.std.specs.List.{flat_map}
use Rattle.app_toml.specs.Held.{app_of}
use Rattle.image_format.specs.ImageData.{all_names, names_bytes}
use Rattle.image_build.specs.Built.{tasks_from}
use Rattle.image_build.proofs.spelled.all_names.Given as goal

abbrev pub invariant-loop-task : goal.invariant-loop-task
invariant-loop-task l =
    l.out.items ++ flat_map (λ t. names_bytes (map string_bytes t.notifications.items)) (drop l.task-index l.tasks)
    ≡ all_names (tasks_from (app_of l.app) 0 (app_of l.app).tasks)

use Rattle.std.proofs.Common.{◌≡◌, ◌++◌, drop, map}
use Rattle.app_toml.specs.Held.{app_of}
use Rattle.image_format.specs.ImageData.{task_record}
use Rattle.image_build.specs.Built.{tasks_from}
use Rattle.image_build.proofs.tasks.task_records.Given as goal

abbrev pub invariant-loop-i : goal.invariant-loop-i
invariant-loop-i l =
    l.out.items ++ map task_record (tasks_from (app_of l.app) l.i (drop l.i (app_of l.app).tasks))
    ≡ map task_record (tasks_from (app_of l.app) 0 (app_of l.app).tasks)

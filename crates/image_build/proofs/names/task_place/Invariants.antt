use Rattle.std.proofs.Common.{◌≡◌, drop, map}
use Rattle.app_toml.specs.Sites.{task_of}
use Rattle.image_build.specs.Layout.{index_from}
use Rattle.image_build.proofs.names.task_place.Given as goal

abbrev pub invariant-loop-i : goal.invariant-loop-i
invariant-loop-i l =
    index_from l.i l.name (map (λ x. x.name) (map task_of (drop l.i l.tasks))) ≡ index_from 0 l.name (map (λ x. x.name) (map task_of l.tasks))

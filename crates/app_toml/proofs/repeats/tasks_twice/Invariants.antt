use Rattle.std.proofs.Common.{◌≡◌, [], drop, map, take}
use Rattle.std.specs.BTreeSet.{contains_text}
use Rattle.app_toml.specs.Crossed.{has_task, task_twice}
use Rattle.app_toml.specs.Places.{Text, first_clash}
use Rattle.app_toml.specs.Sites.{task_of}
use Rattle.app_toml.proofs.repeats.tasks_twice.Given as goal

abbrev pub invariant-loop-i : goal.invariant-loop-i
invariant-loop-i l =
    (first_clash task_twice (map task_of (take l.i l.tasks)) l.i (map task_of (drop l.i l.tasks))
    ≡ first_clash task_twice [] 0 (map task_of l.tasks))
    × ((q : Text) → contains_text l.known q ≡ has_task q (map task_of (take l.i l.tasks)))

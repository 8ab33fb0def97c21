use Rattle.std.proofs.Common.{◌≡◌, drop, map}
use Rattle.app_toml.specs.Places.{first_fault}
use Rattle.app_toml.specs.Rules.{rule_fault}
use Rattle.app_toml.specs.Sites.{task_of}
use Rattle.app_toml.proofs.tasks.first_broken.Given as goal

abbrev pub invariant-loop-i : goal.invariant-loop-i
invariant-loop-i l =
    first_fault (rule_fault l.rule) l.i (map task_of (drop l.i l.tasks)) ≡ first_fault (rule_fault l.rule) 0 (map task_of l.tasks)

use Rattle.std.proofs.Common.{◌≡◌, ◌++◌, drop, length, map}
use Rattle.std.specs.Prelude.{string_bytes}
use Rattle.app_toml.specs.Sites.{task_of}
use Rattle.command_files.proofs.naming.names_of.Given as goal

-- the names so far, and those that are left
abbrev pub invariant-loop-task : goal.invariant-loop-task
invariant-loop-task l = record {
  is : map string_bytes l.names.items ++ map (λ t. t.name) (map task_of (drop l.task-index l.tasks)) ≡ map (λ t. t.name) (map task_of l.tasks);
  many : length l.names.items ≡ l.task-index;
}

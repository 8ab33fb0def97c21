use Rattle.std.proofs.Common.{◌≡◌, length, map}
use Rattle.std.specs.Prelude.{string_bytes}
use Rattle.command_files.specs.Verdict.{task_names}
use Rattle.command_files.proofs.naming.task_names.Given as goal

-- the names so far
abbrev pub invariant-loop-i : goal.invariant-loop-i
invariant-loop-i l = record {
  is : map string_bytes l.names.items ≡ task_names l.i;
  many : length l.names.items ≡ l.i;
}

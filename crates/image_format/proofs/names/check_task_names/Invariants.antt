use Rattle.std.proofs.Common.{◌≡◌, ◌-◌, ◌+◌, ◌≤◌, [], length}
use Rattle.image_format.specs.Names.{after_names, names_of, task_names_fault}
use Rattle.image_format.proofs.names.check_task_names.Given as goal

-- the names before are not refused
abbrev pub invariant-loop-k : goal.invariant-loop-k
invariant-loop-k l = record {
  rest : l.rest ≡ after_names l.k l.bytes;
  fault : task_names_fault l.n [] l.bytes l.place ≡ task_names_fault (l.n - l.k) (names_of l.k l.bytes) l.rest l.at;
  near : l.at + length l.rest ≤ l.place + length l.bytes + l.k;
}

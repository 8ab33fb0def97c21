use Rattle.std.proofs.Common.{◌+◌, ◌-◌, ◌≤◌}
use Rattle.mem_banks.specs.Memory.{bytes_at}
use Rattle.mem_banks.specs.Kept.{IsDone, seen}
use Rattle.mem_banks.proofs.moving.copy_from_end.Given as goal

-- the bytes from `left` on are copied
abbrev pub invariant-loop-left : goal.invariant-loop-left
invariant-loop-left l = record {
  upto : l.left ≤ l.count;
  so_far : IsDone l.table l.initial.banks l.banks (l.to + l.left) (bytes_at (seen l.initial.banks) (l.from + l.left) (l.count - l.left));
}

abbrev pub decreases-loop-left : goal.decreases-loop-left
decreases-loop-left l = l.left

use Rattle.std.proofs.Common.{◌-◌, ◌≤◌}
use Rattle.mem_banks.specs.Memory.{bytes_at}
use Rattle.mem_banks.specs.Kept.{IsDone, seen}
use Rattle.mem_banks.proofs.moving.copy_from_start.Given as goal

-- the bytes before `done` are copied
abbrev pub invariant-loop-done : goal.invariant-loop-done
invariant-loop-done l = record {
  upto : l.done ≤ l.count;
  so_far : IsDone l.table l.initial.banks l.banks l.to (bytes_at (seen l.initial.banks) l.from l.done);
}

abbrev pub decreases-loop-done : goal.decreases-loop-done
decreases-loop-done l = l.count - l.done

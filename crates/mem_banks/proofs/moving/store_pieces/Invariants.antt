use Rattle.std.proofs.Common.{◌-◌, ◌≤◌, take, length}
use Rattle.mem_banks.specs.Kept.{IsDone}
use Rattle.mem_banks.proofs.moving.store_pieces.Given as goal

-- the bytes before `done` are stored
abbrev pub invariant-loop-done : goal.invariant-loop-done
invariant-loop-done l = record {
  upto : l.done ≤ length l.bytes;
  so_far : IsDone l.table l.initial.banks l.banks l.addr (take l.done l.bytes);
}

abbrev pub decreases-loop-done : goal.decreases-loop-done
decreases-loop-done l = length l.bytes - l.done

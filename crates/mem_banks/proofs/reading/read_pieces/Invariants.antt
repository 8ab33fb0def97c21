use Rattle.std.proofs.Common.{◌-◌, ◌≤◌, ◌≡◌, take, length}
use Rattle.mem_banks.specs.Memory.{bytes_at}
use Rattle.mem_banks.specs.Kept.{seen}
use Rattle.mem_banks.proofs.reading.read_pieces.Given as goal

-- the bytes before `done` are read
abbrev pub invariant-loop-done : goal.invariant-loop-done
invariant-loop-done l = record {
  upto : l.done ≤ length l.out;
  len : length l.out ≡ length l.initial.out;
  so_far : take l.done l.out ≡ bytes_at (seen l.banks) l.addr l.done;
}

abbrev pub decreases-loop-done : goal.decreases-loop-done
decreases-loop-done l = length l.out - l.done

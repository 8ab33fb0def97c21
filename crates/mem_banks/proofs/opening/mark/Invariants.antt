use Rattle.std.proofs.Common.{◌≡◌, ◌<◌, length, All}
use Rattle.mem_banks.proofs.opening.mark.Given as goal

abbrev pub invariant-loop-n : goal.invariant-loop-n
invariant-loop-n l = (length l.table ≡ 8192) × All (λ k. k < length l.banks) l.table

use Rattle.std.proofs.Common.{◌≡◌, ◌<◌, length, All}
use Rattle.mem_banks.proofs.opening.mark_all.Given as goal

abbrev pub invariant-loop-k : goal.invariant-loop-k
invariant-loop-k l = (length l.table ≡ 8192) × All (λ k. k < length l.banks) l.table

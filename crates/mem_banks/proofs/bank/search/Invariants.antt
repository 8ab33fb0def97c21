use Rattle.std.proofs.Common.{ℕ, ◌≤◌}
use Rattle.mem_banks.specs.Banks.{IsAt}
use Rattle.mem_banks.proofs.bank.search.Given as goal

-- no bank so far has it
abbrev pub invariant-loop-k : goal.invariant-loop-k
invariant-loop-k l = (j o : ℕ) → IsAt l.banks j o l.addr → l.k ≤ j

use Rattle.std.proofs.Common.{◌≡◌, ◌+◌, ◌≤◌, ◌<◌, ◌⊎◌, ℕ, get_or, length}
use Rattle.image_build.proofs.accepting.put.Given as goal

abbrev pub invariant-loop-k : goal.invariant-loop-k
invariant-loop-k l = record {
  stands : (j : ℕ) → j < l.k → get_or l.flash (l.at + j) 0 ≡ get_or l.code j 0;
  kept : (j : ℕ) → (j < l.at) ⊎ (l.at + length l.code ≤ j) → get_or l.flash j 0 ≡ get_or l.fn.flash j 0;
}

use Rattle.std.proofs.Common.{◌≡◌, ◌<◌, ◌≤◌, ◌+◌, ℕ, true}
use Rattle.region_check.specs.Rights.{may_use}
use Rattle.region_check.proofs.first_lacking.Given as goal

-- each byte so far is granted
abbrev pub invariant-loop-k : goal.invariant-loop-k
invariant-loop-k l = (a : ℕ) → l.addr ≤ a → a < l.addr + l.k → may_use l.regions l.right a ≡ true

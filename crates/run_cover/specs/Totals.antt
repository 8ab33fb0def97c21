-- How much of a region was executed.
use Rattle.std.specs.Prelude.{ℕ, ◌+◌, ◌*◌, ◌≤◌, Bool, nat_lt, if◌then◌else◌, fold}
use Rattle.std.specs.List.{range_with_len}
use Rattle.run_cover.specs.declared.counts.Count.{Count}
use Rattle.run_cover.specs.declared.totals.Totals.{Totals}
use Rattle.run_cover.specs.Covered.{Covered}
use Rattle.run_cover.specs.Ways.{is_conditional, stands_at}

abbrev pub no_totals : Totals
no_totals = record { executed = 0; known = 0; gone = 0; ways = 0 }

abbrev pub added : Totals → Totals → Totals
added t u = record { executed = t.executed + u.executed; known = t.known + u.known; gone = t.gone + u.gone; ways = t.ways + u.ways }

abbrev pub once : Bool → ℕ
once b = if b then 1 else 0

-- How many of a conditional branch's two ways were used: one if it was taken at least once, and one if it was
-- not taken at least once.
abbrev pub ways_gone : Count → ℕ
ways_gone c = once (nat_lt 0 c.taken) + once (nat_lt c.taken c.executed)

-- the totals of a known instruction
abbrev pub totals_of : Bool → Count → Totals
totals_of conditional c = record { executed = once (nat_lt 0 c.executed); known = 1; gone = (if conditional then ways_gone c else 0); ways = (if conditional then 2 else 0) }

-- the totals of a place
unfoldable pub totals_at : Covered → ℕ → Totals
totals_at v a = if v.known a then totals_of (is_conditional (stands_at v.memory a)) (v.counts a) else no_totals

-- the totals of n places from a base on
unfoldable pub totals_in : Covered → ℕ → ℕ → Totals
totals_in v base n = fold (λ t j. added t (totals_at v (base + 2 * j))) no_totals (range_with_len 0 n)

-- no total is above n
pub record AreAtMost (n : ℕ) (t : Totals) : Type 0 where
  pub executed : t.executed ≤ n
  pub known : t.known ≤ n
  pub gone : t.gone ≤ n
  pub ways : t.ways ≤ n

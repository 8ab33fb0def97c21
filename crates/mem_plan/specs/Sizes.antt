-- The sizes of regions: powers of two of at least 256.
use Rattle.std.specs.Prelude.{ℕ, Bool, List, ◌*◌, zero, suc, if◌then◌else◌, nat_le}
use Rattle.std.specs.List.{sum_by}

-- the first of p, 2 p, 4 p .. that is at least the size, after at most k doublings
abbrev pub doubled : ℕ → ℕ → ℕ → ℕ
doubled zero p size = p
doubled (suc k) p size = if nat_le size p then p else doubled k (2 * p) size

-- the least power of two, from 2 ^ 8 to 2 ^ 20, that is at least the size
abbrev pub rounded : ℕ → ℕ
rounded size = doubled 12 256 size

abbrev pub total : List ℕ → ℕ
total = sum_by (λ r. r)

-- the sum of the sizes of which the test holds
abbrev pub sum_where : (ℕ → Bool) → List ℕ → ℕ
sum_where test = sum_by (λ r. if test r then r else 0)

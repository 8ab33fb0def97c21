-- The numbers that a seed gives.
use Rattle.std.specs.Prelude.{ℕ, zero, suc, ◌+◌, ◌*◌, ◌/◌, ◌%◌, ◌^◌}

-- the number after this one
unfoldable pub next : ℕ → ℕ
next x = (1664525 * x + 1013904223) % 2 ^ 32

-- the k-th number, the seed being number 0
unfoldable pub number : ℕ → ℕ → ℕ
number seed zero = seed
number seed (suc k) = next (number seed k)

-- the draw below n that the k-th number gives
unfoldable pub draw : ℕ → ℕ → ℕ → ℕ
draw seed k n = number seed k / 65536 % n

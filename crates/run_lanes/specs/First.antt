-- The first of several values that come one after another, and how many came.
use Rattle.std.specs.Prelude.{◌≡◌, ℕ, ◌-◌, ◌^◌, List, length, min, take}

-- how many there are, at most 2^64 - 1
abbrev pub counted : {T : Type 0} → List T → ℕ
counted xs = min (length xs) (2 ^ 64 - 1)

-- the first of all these values are kept, as many as there is memory for
pub record IsFirst {T : Type 0} (most : ℕ) (kept : List T) (capacity all : ℕ) (xs : List T) : Type 0 where
  pub first : kept ≡ take most xs
  pub room : capacity ≡ most
  pub many : all ≡ counted xs

-- The bytes of a number.
use Rattle.std.specs.Prelude.{ℕ, ◌/◌, ◌%◌, ◌^◌, List, [], ◌∷◌, take}

-- the low n bytes of a number, at most four, the lowest first
abbrev pub bytes_of : ℕ → ℕ → List ℕ
bytes_of v n = take n (v % 256 ∷ v / 2 ^ 8 % 256 ∷ v / 2 ^ 16 % 256 ∷ v / 2 ^ 24 % 256 ∷ [])

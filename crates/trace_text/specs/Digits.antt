-- The digits of a turn's number at the front of a buffer.
use Rattle.std.specs.Prelude.{ℕ, ◌≡◌, ◌≤◌, List, [], length, take, decimal, Option, Some, None}
use Rattle.std.specs.String.Boundary.{IsSplitPoint}

-- before the first line there are no bytes; after it the first bytes are the digits of a number, and the text may
-- be cut after them
pub record HasDigits (number : ℕ) (bytes : List ℕ) (begun : Option ℕ) : Type 0 where
  pub empty : begun ≡ None → bytes ≡ []
  pub digits : (n : ℕ) → begun ≡ Some n → take n bytes ≡ decimal number
  pub cut : (n : ℕ) → begun ≡ Some n → IsSplitPoint bytes n
  pub count : (n : ℕ) → begun ≡ Some n → n ≡ length (decimal number)
  pub few : (n : ℕ) → begun ≡ Some n → n ≤ 20

-- Sets of tasks, each a list of words of 32 bits, as sets of their places in the order of the tasks, or of their indices.
use Rattle.std.specs.Prelude.{ℕ, ◌≡◌, ◌/◌, ◌%◌, ◌<◌, ◌≤◌, ◌+◌, Bool, true, false, not, List, [], ◌∷◌, Option, Some, None, slice_index_or, ◌==◌}
use Rattle.std.specs.Int.{bit_at}

-- place p is in the set: bit p % 32 of word p / 32 is 1
unfoldable pub has : List ℕ → ℕ → Bool
has words p = bit_at (slice_index_or words (p / 32) 0) (p % 32) == 1

-- the least place of the set at or above a place
abbrev pub IsFirstFrom : List ℕ → ℕ → Option ℕ → Type 0
IsFirstFrom words from None = (p : ℕ) → from ≤ p → has words p ≡ false
IsFirstFrom words from (Some first) = (from ≤ first) × (has words first ≡ true) × ((p : ℕ) → from ≤ p → p < first → has words p ≡ false)

-- whether a set has no place
abbrev pub IsEmptyOrNot : List ℕ → Bool → Type 0
IsEmptyOrNot words true = (p : ℕ) → has words p ≡ false
IsEmptyOrNot words false = (p : ℕ) × (has words p ≡ true)

-- a summary says of each word whether it has a set bit
abbrev pub IsSummary : List ℕ → ℕ → Type 0
IsSummary words summary = (w : ℕ) → has (summary ∷ []) w ≡ not (slice_index_or words w 0 == 0)

-- a summary has no bit for the words from `used` on, and has one for the word before, unless `used` is 0
pub record IsUsed (summary used : ℕ) : Type 0 where
  pub most : used ≤ 32
  pub none : (w : ℕ) → used ≤ w → has (summary ∷ []) w ≡ false
  pub last : (w : ℕ) → w + 1 ≡ used → has (summary ∷ []) w ≡ true

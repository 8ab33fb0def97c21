-- Where regions are placed: largest first, ties by index, packed from the base. Sizes are rounded.
use Rattle.std.specs.Prelude.{⊤, ℕ, List, [], ◌∷◌, ◌+◌, ◌*◌, ◌≤◌, ◌<◌, ◌≡◌, ◌⊎◌, length, map, take, drop, nat_le, nat_lt, get_or}
use Rattle.std.specs.List.{AllByRecursion}
use Rattle.mem_plan.specs.Sizes.{sum_where}

-- before the i-th size lie the larger ones, and those of its size with a lower index
abbrev pub placed : ℕ → List ℕ → ℕ → ℕ
placed base sizes i = let size = get_or sizes i 0 in
    base + (sum_where (λ s. nat_le size s) (take i sizes) + sum_where (λ s. nat_lt size s) (drop i sizes))

-- each base is where it is placed
abbrev pub IsPlan : ℕ → List ℕ → List ℕ → Type 0
IsPlan base sizes bases = (i : ℕ) → i < length sizes → get_or bases i 0 ≡ placed base sizes i

-- ---- what a plan keeps

pub record Span : Type 0 where
  pub base : ℕ
  pub size : ℕ

abbrev pub AreApart : Span → Span → Type 0
AreApart a b = (a.base + a.size ≤ b.base) ⊎ (b.base + b.size ≤ a.base)

abbrev pub IsInside : ℕ → ℕ → Span → Type 0
IsInside base room a = (base ≤ a.base) × (a.base + a.size ≤ base + room)

abbrev pub span_at : List ℕ → List ℕ → ℕ → Span
span_at sizes bases i = record { base = get_or bases i 0; size = get_or sizes i 0 }

-- the spans lie inside the room, and no two of them meet
pub record KeepsApart (base room : ℕ) (sizes bases : List ℕ) : Type 0 where
  pub inside : (i : ℕ) → i < length sizes → IsInside base room (span_at sizes bases i)
  pub apart : (i j : ℕ) → i < length sizes → j < length sizes → (i ≡ j → ⊥)
      → AreApart (span_at sizes bases i) (span_at sizes bases j)

abbrev pub IsMultiple : ℕ → ℕ → Type 0
IsMultiple r x = (k : ℕ) × (x ≡ r * k)

-- each base is a multiple of its size
abbrev pub IsAligned : List ℕ → List ℕ → Type 0
IsAligned sizes bases = (i : ℕ) → i < length sizes → IsMultiple (get_or sizes i 0) (get_or bases i 0)

-- ---- a placement, of whatever kind

abbrev pub AreDisjoint : List Span → Type 0
AreDisjoint [] = ⊤
AreDisjoint (a ∷ more) = AllByRecursion (AreApart a) more × AreDisjoint more

-- spans of these sizes, in this order, disjoint and inside the room
pub record IsPlacement (base room : ℕ) (sizes : List ℕ) (spans : List Span) : Type 0 where
  pub lengths : map (λ a. a.size) spans ≡ sizes
  pub apart : AreDisjoint spans
  pub inside : AllByRecursion (IsInside base room) spans

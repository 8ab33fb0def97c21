-- The order in which the code places regions, and what it keeps on the way.
use Rattle.std.specs.Prelude.{ℕ, List, [], ◌∷◌, ◌+◌, ◌≤◌, ◌<◌, ◌≡◌, ◌==◌, take, if◌then◌else◌, get_or}
use Rattle.std.specs.List.{sum_by}
use Rattle.std.specs.declared.cmp.Ordering.{Ordering}
use Rattle.std.specs.Ordering.{nat_cmp, ordering_then}
use Rattle.std.specs.declared.cmp.Reverse.{Reverse}

-- a size with its index
abbrev pub Ranked : Type 0
Ranked = Reverse ℕ × ℕ

abbrev pub size_of : Ranked → ℕ
size_of o = o.0.0

-- the sizes with their indices, counted from k
abbrev pub numbered : ℕ → List ℕ → List Ranked
numbered k [] = []
numbered k (r ∷ rs) = (record { 0 = r }, k) ∷ numbered (k + 1) rs

-- the larger one comes first, of equal ones that of the lower index
abbrev pub goes_before : Ranked → Ranked → Ordering
goes_before a b = ordering_then (nat_cmp b.0.0 a.0.0) (nat_cmp a.1 b.1)

-- the first n of the order begin where the ones before them end
abbrev pub IsPacked : List Ranked → ℕ → ℕ → List ℕ → Type 0
IsPacked order base n bases = (k : ℕ) (d : Ranked) → k < n
    → get_or bases (get_or order k d).1 0 ≡ base + sum_by size_of (take k order)

abbrev pub is_at : ℕ → Ranked → ℕ
is_at m o = if o.1 == m then 1 else 0

-- no index occurs twice
abbrev pub HasDistinctIndices : List Ranked → Type 0
HasDistinctIndices order = (m : ℕ) → sum_by (is_at m) order ≤ 1

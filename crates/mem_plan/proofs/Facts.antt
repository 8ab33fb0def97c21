-- What a permutation of the numbered sizes keeps.
use Rattle.std.proofs.Common.{◌≡◌, ◌∙◌, ℕ, ◌+◌, ◌*◌, ◌≤◌, ◌<◌, zero, suc, List, [], ◌∷◌, map, refl, sym, ap, arith, nat_le, length, take, get_or, inl, inr}
use Rattle.std.specs.List.{All, sum_by, Contains}
use Rattle.std.specs.List.Sorted.{IsPermutation, IsSorted}
use Rattle.std.proofs.lemmas.Bool.{cases_Bool}
use Rattle.std.proofs.lemmas.List.Sorted.{sum_by-IsPermutation, All-permutation, Contains-permutation, length_permutation}
use Rattle.mem_plan.specs.Order.{IsPacked, HasDistinctIndices, Ranked, goes_before, is_at, numbered, size_of}
use Rattle.mem_plan.specs.Placing.{IsPlan}
use Rattle.mem_plan.specs.Sizes.{doubled, rounded, total}
use Rattle.mem_plan.proofs.Ordered.{before_place, by_index, earlier, once_numbered, sizes_numbered}

pub length_numbered : (k : ℕ) (rs : List ℕ) → length (numbered k rs) ≡ length rs
length_numbered k [] = refl
length_numbered k (r ∷ rs) = ap suc (length_numbered (k + 1) rs)

pub get_numbered : (k : ℕ) (rs : List ℕ) (i : ℕ) (d : Ranked) → i < length rs → get_or (numbered k rs) i d ≡ (record { 0 = get_or rs i 0 }, k + i)
get_numbered k [] i d lt = absurd (omega (arith, lt))
get_numbered k (r ∷ rs) zero d lt = let e : k ≡ k + 0 = omega arith in ap (λ (j : ℕ). (record { 0 = r }, j)) e
get_numbered k (r ∷ rs) (suc i) d lt =
    let e : (k + 1) + i ≡ k + suc i = omega arith in
    get_numbered (k + 1) rs i d (omega (arith, lt)) ∙ ap (λ (j : ℕ). (record { 0 = get_or rs i 0 }, j)) e

pub same_total : (rs : List ℕ) (order : List Ranked) → IsPermutation (numbered 0 rs) order → sum_by size_of order ≡ total rs
same_total rs order perm = sum_by-IsPermutation size_of (numbered 0 rs) order perm ∙ sizes_numbered 0 rs

pub same_length : (rs : List ℕ) (order : List Ranked) → IsPermutation (numbered 0 rs) order → length order ≡ length rs
same_length rs order perm = length_permutation (numbered 0 rs) order perm ∙ length_numbered 0 rs

pub once : (rs : List ℕ) (order : List Ranked) → IsPermutation (numbered 0 rs) order → HasDistinctIndices order
once rs order perm m = rw (sum_by-IsPermutation (is_at m) (numbered 0 rs) order perm) (once_numbered 0 rs m)

pub positive : (rs : List ℕ) (order : List Ranked) → IsPermutation (numbered 0 rs) order → ((i : ℕ) → i < length rs → 1 ≤ get_or rs i 0) → All (λ o. 1 ≤ size_of o) order
positive rs order perm h = All-permutation (λ (o : Ranked). 1 ≤ size_of o) (numbered 0 rs) order perm
    (λ i d lt. let below : i < length rs = omega (arith, lt, length_numbered 0 rs) in
    let e = ap size_of (get_numbered 0 rs i d below) in omega (arith, e, h i below))

pub indices_below : (rs : List ℕ) (order : List Ranked) → IsPermutation (numbered 0 rs) order → All (λ o. o.1 < length order) order
indices_below rs order perm = All-permutation (λ (o : Ranked). o.1 < length order) (numbered 0 rs) order perm
    (λ i d lt. let below : i < length rs = omega (arith, lt, length_numbered 0 rs) in
    let e = ap (λ (o : Ranked). o.1) (get_numbered 0 rs i d below) in omega (arith, e, below, same_length rs order perm))

pub at_least : (k p size : ℕ) → p ≤ doubled k p size
at_least zero p size = omega arith
at_least (suc k) p size = elim (cases_Bool (nat_le size p)) [
  | inl fits ↦ rw fits (omega arith)
  | inr more ↦ rw more (omega (arith, at_least k (2 * p) size))
]

pub rounded_positive : (sizes : List ℕ) (i : ℕ) → i < length (map rounded sizes) → 1 ≤ get_or (map rounded sizes) i 0
rounded_positive [] i lt = absurd (omega (arith, lt))
rounded_positive (s ∷ sizes) zero lt = omega (arith, at_least 12 256 s)
rounded_positive (s ∷ sizes) (suc i) lt = rounded_positive sizes i (omega (arith, lt))

-- packed in order, each size lies where it is placed
pub placed_all : (rs : List ℕ) (order : List Ranked) (base : ℕ) (bases : List ℕ) → IsPermutation (numbered 0 rs) order → IsSorted goes_before order
    → IsPacked order base (length order) bases → IsPlan base rs bases
placed_all rs order base bases perm up packed i lt =
    let x : Ranked = (record { 0 = get_or rs i 0 }, i) in
    let one : Contains (numbered 0 rs) x = (i, omega (arith, lt, length_numbered 0 rs), get_numbered 0 rs i x lt ∙ (let e : 0 + i ≡ i = omega arith in ap (λ (j : ℕ). (record { 0 = get_or rs i 0 }, j)) e)) in
    let found = Contains-permutation (numbered 0 rs) order x perm one in
    let q = found.0 in
    let is : get_or order q x ≡ x = found.2 in
    let here : get_or bases (get_or order q x).1 0 ≡ base + sum_by size_of (take q order) = packed q x found.1 in
    let before = before_place rs order perm up q x found.1 in
    let at : get_or bases i 0 ≡ get_or bases (get_or order q x).1 0 = ap (λ (o : Ranked). get_or bases o.1 0) (sym is) in
    let sums : sum_by (earlier (get_or order q x).0.0 (get_or order q x).1) (numbered 0 rs) ≡ sum_by (earlier (get_or rs i 0) i) (numbered 0 rs) =
    ap (λ (o : Ranked). sum_by (earlier o.0.0 o.1) (numbered 0 rs)) is in
    let from_zero : sum_by (earlier (get_or rs i 0) i) (numbered 0 rs) ≡ sum_by (earlier (get_or rs i 0) (0 + i)) (numbered 0 rs) =
    let e : i ≡ 0 + i = omega arith in ap (λ (j : ℕ). sum_by (earlier (get_or rs i 0) j) (numbered 0 rs)) e in
    at ∙ here ∙ ap (λ (n : ℕ). base + n) (before ∙ sums ∙ from_zero ∙ by_index (get_or rs i 0) i 0 rs)

-- The order by size and index, and the sums before a place in it.
use Rattle.std.proofs.Common.{◌≡◌, ◌∙◌, ℕ, false, ◌+◌, ◌-◌, ◌≤◌, ◌<◌, ◌&&◌, ◌||◌, ◌==◌, zero, suc, List, [], ◌∷◌, ◌++◌, refl, sym, ap, ap₂, subst, arith, rules, nat_le, nat_lt, inl, inr, length, take, drop, get_or, slice_set}
use Rattle.std.specs.List.{sum_by}
use Rattle.std.specs.List.Sorted.{IsPermutation, IsSorted}
use Rattle.std.specs.Ordering.{is_lt, nat_cmp, ordering_then}
use Rattle.std.specs.Prelude.{if◌then◌else◌}
use Rattle.std.specs.Cmp.{IsTotalOrder}
use Rattle.std.proofs.lemmas.Bool.{cases_lt}
use Rattle.std.proofs.lemmas.Bool.Decides.{nat_tests}
use Rattle.std.proofs.lemmas.Grind.{get_or-set_at}
use Rattle.std.proofs.lemmas.List.{length-take-le, get_or_default, get_or-set_other, get_or-take}
use Rattle.std.proofs.lemmas.List.Sums.{sum_by-cons, sum_by_more, sum_by_more_le, get_or-le-sum_by}
use Rattle.std.proofs.lemmas.List.Sorted.{sum_by-IsPermutation, sorted_far, ranks_by}
use Rattle.std.proofs.lemmas.Cmp.{nat_cmp_total, on_total, then_total}
use Rattle.std.proofs.Math.Seq.{take-length}
use Rattle.mem_plan.specs.Order.{IsPacked, HasDistinctIndices, Ranked, goes_before, is_at, numbered, size_of}
use Rattle.mem_plan.specs.Sizes.{sum_where, total}

is_at_itself : (m : ℕ) (o : Ranked) → o.1 ≡ m → is_at m o ≡ 1
is_at_itself m o e = grind (arith, nat_tests)

-- of two places the index is another
differ : (order : List Ranked) → HasDistinctIndices order → (j k : ℕ) (d : Ranked) → j < k → k < length order → (get_or order j d).1 ≡ (get_or order k d).1 → ⊥
differ order once j k d lt below same =
    let m = (get_or order k d).1 in
    let here : is_at m (get_or order k d) ≡ 1 = is_at_itself m (get_or order k d) refl in
    let there : is_at m (get_or order j d) ≡ 1 = is_at_itself m (get_or order j d) same in
    let more = sum_by_more_le (is_at m) order k d below in
    let long : length (take k order) ≡ k = length-take-le k order (omega (arith, below)) in
    let part : is_at m (get_or (take k order) j d) ≤ sum_by (is_at m) (take k order) = get_or-le-sum_by (is_at m) (take k order) j d (omega (arith, long, lt)) in
    let same_item : is_at m (get_or (take k order) j d) ≡ is_at m (get_or order j d) = ap (is_at m) (get_or-take k order j d lt) in
    absurd (omega (arith, here, there, more, part, same_item, once m))

pub packed_more : (order : List Ranked) (base : ℕ) (bases : List ℕ) (k : ℕ) (e : Ranked) (v : ℕ) → k < length order → HasDistinctIndices order
    → (get_or order k e).1 < length bases → IsPacked order base k bases → v ≡ base + sum_by size_of (take k order)
    → IsPacked order base (k + 1) (slice_set bases (get_or order k e).1 v)
packed_more order base bases k e v below once inside before is j d lt = elim (cases_lt j k) [
  | inl earlier ↦ get_or-set_other bases (get_or order k e).1 (get_or order j d).1 v 0
      (λ same. differ order once j k d earlier below (same ∙ ap (λ (o : Ranked). o.1) (get_or_default order k e d below))) ∙ before j d earlier
  | inr later ↦ let at : j ≡ k = omega (arith, later, lt) in
      get_or-set_at bases (get_or order k e).1 (get_or order j d).1 v 0
      (ap (λ (i : ℕ). (get_or order i d).1) at ∙ ap (λ (o : Ranked). o.1) (get_or_default order k d e below)) inside
      ∙ is ∙ ap (λ (i : ℕ). base + sum_by size_of (take i order)) (sym at)
]

-- ---- numbers

ranked : ℕ → ℕ → Ranked
ranked r k = (record { 0 = r }, k)

pub numbered_push : (k : ℕ) (rs : List ℕ) (r : ℕ) → numbered k (rs ++ r ∷ []) ≡ numbered k rs ++ (record { 0 = r }, k + length rs) ∷ []
numbered_push k [] r = let e : k ≡ k + 0 = omega arith in ap (λ (i : ℕ). (record { 0 = r }, i) ∷ []) e
numbered_push k (x ∷ rs) r =
    let e : (k + 1) + length rs ≡ k + length (x ∷ rs) = omega arith in
    ap (λ (os : List Ranked). (record { 0 = x }, k) ∷ os) (numbered_push (k + 1) rs r ∙ ap (λ (i : ℕ). numbered (k + 1) rs ++ (record { 0 = r }, i) ∷ []) e)

cons_sum : (f : Ranked → ℕ) (k r : ℕ) (rs : List ℕ) → sum_by f (numbered k (r ∷ rs)) ≡ f (record { 0 = r }, k) + sum_by f (numbered (k + 1) rs)
cons_sum f k r rs = sum_by-cons f (record { 0 = r }, k) (numbered (k + 1) rs)

pub sizes_numbered : (k : ℕ) (rs : List ℕ) → sum_by size_of (numbered k rs) ≡ total rs
sizes_numbered k [] = refl
sizes_numbered k (r ∷ rs) = cons_sum size_of k r rs ∙ ap (λ x. r + x) (sizes_numbered (k + 1) rs) ∙ sym (sum_by-cons (λ (x : ℕ). x) r rs)

none_below : (m k : ℕ) (rs : List ℕ) → m < k → sum_by (is_at m) (numbered k rs) ≡ 0
none_below m k [] lt = refl
none_below m k (r ∷ rs) lt =
    let here : is_at m (record { 0 = r }, k) ≡ 0 = grind (arith, nat_tests) in
    omega (arith, here, cons_sum (is_at m) k r rs, none_below m (k + 1) rs (omega (arith, lt)))

at_most_one : (m : ℕ) (o : Ranked) → is_at m o ≤ 1
at_most_one m o = grind (arith, nat_tests)

not_at : (m : ℕ) (o : Ranked) → (o.1 ≡ m → ⊥) → is_at m o ≡ 0
not_at m o other = grind (arith, nat_tests)

pub once_numbered : (k : ℕ) (rs : List ℕ) → HasDistinctIndices (numbered k rs)
once_numbered k [] m = omega arith
once_numbered k (r ∷ rs) m = elim (cases_lt m (k + 1)) [
  | inl low ↦ omega (arith, cons_sum (is_at m) k r rs, none_below m (k + 1) rs low, at_most_one m (record { 0 = r }, k))
  | inr high ↦ let other : is_at m (record { 0 = r }, k) ≡ 0 = not_at m (record { 0 = r }, k) (λ e. absurd (omega (arith, e, high))) in
      omega (arith, cons_sum (is_at m) k r rs, other, once_numbered (k + 1) rs m)
]

-- ---- the sums before a place

-- the size, where it comes before size r at index i; and where it is that one
abbrev pub earlier : ℕ → ℕ → Ranked → ℕ
earlier r i o = if nat_lt r o.0.0 || (o.0.0 == r && nat_lt o.1 i) then o.0.0 else 0

abbrev same_one : ℕ → ℕ → Ranked → ℕ
same_one r i o = if o.0.0 == r && o.1 == i then o.0.0 else 0

-- the sums over all, by index
late : (r i k : ℕ) (rs : List ℕ) → i ≤ k → sum_by (earlier r i) (numbered k rs) ≡ sum_where (λ s. nat_lt r s) rs
late r i k [] le = refl
late r i k (x ∷ rs) le =
    let here : earlier r i (record { 0 = x }, k) ≡ (if nat_lt r x then x else 0) = grind (arith, nat_tests) in
    cons_sum (earlier r i) k x rs ∙ ap₂ (λ x y. x + y) here (late r i (k + 1) rs (omega (arith, le))) ∙ sym (sum_by-cons (λ (s : ℕ). if nat_lt r s then s else 0) x rs)

zero_first : (n : ℕ) → n ≡ 0 + n
zero_first n = omega arith

pub by_index : (r i k : ℕ) (rs : List ℕ) → sum_by (earlier r (k + i)) (numbered k rs) ≡ sum_where (λ s. nat_le r s) (take i rs) + sum_where (λ s. nat_lt r s) (drop i rs)
by_index r zero k [] = refl
by_index r (suc i) k [] = refl
by_index r zero k (x ∷ rs) =
    let same : k + 0 ≡ k = omega arith in
    ap (λ (j : ℕ). sum_by (earlier r j) (numbered k (x ∷ rs))) same ∙ late r k k (x ∷ rs) (omega arith) ∙ zero_first (sum_where (λ s. nat_lt r s) (x ∷ rs))
by_index r (suc i) k (x ∷ rs) =
    let here : earlier r (k + suc i) (record { 0 = x }, k) ≡ (if nat_le r x then x else 0) = grind (arith, nat_tests) in
    let next : k + suc i ≡ (k + 1) + i = omega arith in
    let rest : sum_by (earlier r (k + suc i)) (numbered (k + 1) rs) ≡ sum_where (λ s. nat_le r s) (take i rs) + sum_where (λ s. nat_lt r s) (drop i rs) =
    rw next (by_index r i (k + 1) rs) in
    let cons = sum_by-cons (λ (s : ℕ). if nat_le r s then s else 0) x (take i rs) in
    omega (arith, cons_sum (earlier r (k + suc i)) k x rs, here, rest, cons)

none_same : (r i k : ℕ) (rs : List ℕ) → i < k → sum_by (same_one r i) (numbered k rs) ≡ 0
none_same r i k [] lt = refl
none_same r i k (x ∷ rs) lt =
    let here : same_one r i (record { 0 = x }, k) ≡ 0 = grind (arith, nat_tests) in
    omega (arith, here, cons_sum (same_one r i) k x rs, none_same r i (k + 1) rs (omega (arith, lt)))

same_sum : (r i k : ℕ) (rs : List ℕ) → sum_by (same_one r i) (numbered k rs) ≤ r
same_sum r i k [] = omega arith
same_sum r i k (x ∷ rs) = elim (cases_lt i (k + 1)) [
  | inl low ↦ let here : same_one r i (record { 0 = x }, k) ≤ r = grind (arith, nat_tests) in
      omega (arith, cons_sum (same_one r i) k x rs, none_same r i (k + 1) rs low, here)
  | inr high ↦ let here : same_one r i (record { 0 = x }, k) ≡ 0 = grind (arith, nat_tests) in
      omega (arith, cons_sum (same_one r i) k x rs, here, same_sum r i (k + 1) rs)
]

backwards : IsTotalOrder (λ (x : ℕ) (y : ℕ). nat_cmp y x)
backwards = search (rules, nat_cmp_total)

order_total : IsTotalOrder goes_before
order_total = then_total (on_total (λ (o : Ranked). o.0.0) backwards) (on_total (λ (o : Ranked). o.1) nat_cmp_total)

-- what the order says of two places
before_in : (order : List Ranked) → IsSorted goes_before order → (j k : ℕ) (d : Ranked) → j ≤ k → k < length order → is_lt (goes_before (get_or order k d) (get_or order j d)) ≡ false
before_in order up j k d le below = sorted_far _ (ranks_by order_total (λ (o : Ranked). o)) order up j k d le below

not_first : (x y i j : ℕ) → is_lt (ordering_then (nat_cmp y x) (nat_cmp i j)) ≡ false → (x ≤ y) × (y ≡ x → j ≤ i)
not_first x y i j h = grind (arith, nat_tests)

-- the element is not before the one at q
none_later : (a o : Ranked) → is_lt (goes_before o a) ≡ false → earlier a.0.0 a.1 o ≡ 0
none_later a o h = let p = not_first o.0.0 a.0.0 o.1 a.1 h in grind (arith, nat_tests, p)

-- the element is before the one at q, or that one
all_earlier : (a o : Ranked) → is_lt (goes_before a o) ≡ false → earlier a.0.0 a.1 o + same_one a.0.0 a.1 o ≡ size_of o
all_earlier a o h = let p = not_first a.0.0 o.0.0 a.1 o.1 h in grind (arith, nat_tests, p)

front : (order : List Ranked) → IsSorted goes_before order → (q n : ℕ) (d : Ranked) → n ≤ q → q < length order
    → sum_by (earlier (get_or order q d).0.0 (get_or order q d).1) (take n order) + sum_by (same_one (get_or order q d).0.0 (get_or order q d).1) (take n order) ≡ sum_by size_of (take n order)
front order up q zero d le below = refl
front order up q (suc n) d le below =
    let a = get_or order q d in
    let f = earlier a.0.0 a.1 in
    let g = same_one a.0.0 a.1 in
    let here : f (get_or order n d) + g (get_or order n d) ≡ size_of (get_or order n d) = all_earlier a (get_or order n d) (before_in order up n q d (omega (arith, le)) below) in
    let more : sum_by f (take (n + 1) order) + sum_by g (take (n + 1) order) ≡ sum_by size_of (take (n + 1) order) =
    omega (arith, here, sum_by_more f order n d (omega (arith, le, below)), sum_by_more g order n d (omega (arith, le, below)), sum_by_more size_of order n d (omega (arith, le, below)), front order up q n d (omega (arith, le)) below) in
    let e : n + 1 ≡ suc n = omega arith in
    subst (λ (x : ℕ). sum_by f (take x order) + sum_by g (take x order) ≡ sum_by size_of (take x order)) e more

rest : (order : List Ranked) → IsSorted goes_before order → (q j : ℕ) (d : Ranked) → q + j ≤ length order → q < length order
    → sum_by (earlier (get_or order q d).0.0 (get_or order q d).1) (take (q + j) order) ≡ sum_by (earlier (get_or order q d).0.0 (get_or order q d).1) (take q order)
rest order up q zero d le below = let e : q + 0 ≡ q = omega arith in rw e refl
rest order up q (suc j) d le below =
    let a = get_or order q d in
    let f = earlier a.0.0 a.1 in
    let none : f (get_or order (q + j) d) ≡ 0 = none_later a (get_or order (q + j) d) (before_in order up q (q + j) d (omega arith) (omega (arith, le))) in
    let e : q + suc j ≡ (q + j) + 1 = omega arith in
    rw e (omega (arith, none, sum_by_more f order (q + j) d (omega (arith, le)), rest order up q j d (omega (arith, le)) below))

-- what lies before a place in the order is what has to be placed before it
pub before_place : (rs : List ℕ) (order : List Ranked) → IsPermutation (numbered 0 rs) order → IsSorted goes_before order → (q : ℕ) (d : Ranked) → q < length order
    → sum_by size_of (take q order) ≡ sum_by (earlier (get_or order q d).0.0 (get_or order q d).1) (numbered 0 rs)
before_place rs order perm up q d below =
    let a = get_or order q d in
    let f = earlier a.0.0 a.1 in
    let g = same_one a.0.0 a.1 in
    let itself : g a ≡ a.0.0 = grind (arith, nat_tests) in
    let all : take (q + (length order - q)) order ≡ order = let e : q + (length order - q) ≡ length order = omega (arith, below) in rw e (take-length order) in
    let tail : sum_by f (take (q + (length order - q)) order) ≡ sum_by f (take q order) = rest order up q (length order - q) d (omega (arith, below)) below in
    let whole : sum_by f order ≡ sum_by f (take q order) = ap (sum_by f) (sym all) ∙ tail in
    let moved : sum_by f order ≡ sum_by f (numbered 0 rs) = sum_by-IsPermutation f (numbered 0 rs) order perm in
    let copies : sum_by g order ≡ sum_by g (numbered 0 rs) = sum_by-IsPermutation g (numbered 0 rs) order perm in
    omega (arith, itself, whole, moved, copies, same_sum a.0.0 a.1 0 rs, sum_by_more_le g order q d below, front order up q q d (omega arith) below)

-- The numbered sizes have an order in which they are placed.
use Rattle.std.proofs.Common.{◌≡◌, Bool, true, false, ℕ, zero, suc, ◌+◌, ◌<◌, List, [], ◌∷◌, length, get_or, arith, inl, inr}
use Rattle.std.specs.Prelude.{⊤, if◌then◌else◌}
use Rattle.std.specs.List.Sorted.{IsPermutation, IsSorted}
use Rattle.std.specs.Ordering.{is_lt, nat_cmp, ordering_then}
use Rattle.std.proofs.lemmas.Bool.{cases_Bool}
use Rattle.std.proofs.lemmas.Bool.Decides.{nat_tests}
use Rattle.std.proofs.lemmas.List.Sorted.{IsPermutation-refl, IsPermutation-sym, IsPermutation-trans, IsPermutation-cons, IsPermutation-middle}
use Rattle.mem_plan.specs.Order.{Ranked, goes_before}

abbrev is_before : Ranked → Ranked → Bool
is_before a b = is_lt (goes_before a b)

-- one more in its place, and all in their places
abbrev put_in : Ranked → List Ranked → List Ranked
put_in a [] = a ∷ []
put_in a (b ∷ more) = if is_before b a then b ∷ put_in a more else a ∷ b ∷ more

abbrev pub arranged : List Ranked → List Ranked
arranged [] = []
arranged (a ∷ more) = put_in a (arranged more)

same_ones : (a : Ranked) (order : List Ranked) → IsPermutation (a ∷ order) (put_in a order)
same_ones a [] = IsPermutation-refl (a ∷ [])
same_ones a (b ∷ more) = elim (cases_Bool (is_before b a)) [
  | inl first ↦ rw first (IsPermutation-trans _ _ _ (IsPermutation-sym _ _ (IsPermutation-middle (b ∷ []) a more)) (IsPermutation-cons b _ _ (same_ones a more)))
  | inr after ↦ rw after (IsPermutation-refl (a ∷ b ∷ more))
]

pub arranged_all : (order : List Ranked) → IsPermutation order (arranged order)
arranged_all [] = IsPermutation-refl []
arranged_all (a ∷ more) = IsPermutation-trans _ _ _ (IsPermutation-cons a _ _ (arranged_all more)) (same_ones a (arranged more))

-- none is before the one that stands before it
abbrev IsNotBefore : Ranked → List Ranked → Type 0
IsNotBefore a [] = ⊤
IsNotBefore a (b ∷ more) = is_before b a ≡ false

abbrev Rises : List Ranked → Type 0
Rises [] = ⊤
Rises (a ∷ more) = IsNotBefore a more × Rises more

one_way : (x y i j : ℕ) → is_lt (ordering_then (nat_cmp y x) (nat_cmp i j)) ≡ true → is_lt (ordering_then (nat_cmp x y) (nat_cmp j i)) ≡ false
one_way x y i j h = grind (arith, nat_tests)

not_back : (a b : Ranked) → is_before b a ≡ true → is_before a b ≡ false
not_back a b h = one_way b.0.0 a.0.0 b.1 a.1 h

behind : (a b : Ranked) (more : List Ranked) → is_before b a ≡ true → IsNotBefore b more → IsNotBefore b (put_in a more)
behind a b [] first up = not_back a b first
behind a b (c ∷ more) first up = elim (cases_Bool (is_before c a)) [
  | inl too ↦ rw too up
  | inr after ↦ rw after (not_back a b first)
]

still_rises : (a : Ranked) (order : List Ranked) → Rises order → Rises (put_in a order)
still_rises a [] up = (tt, tt)
still_rises a (b ∷ more) up = elim (cases_Bool (is_before b a)) [
  | inl first ↦ rw first (behind a b more first up.0, still_rises a more up.1)
  | inr after ↦ rw after (after, up)
]

rises : (order : List Ranked) → Rises (arranged order)
rises [] = tt
rises (a ∷ more) = still_rises a (arranged more) (rises more)

second : (a : Ranked) (more : List Ranked) (d : Ranked) → 0 < length more → IsNotBefore a more → is_before (get_or more 0 d) a ≡ false
second a [] d lt up = absurd (omega (arith, lt))
second a (b ∷ more) d lt up = up

in_order : (order : List Ranked) → Rises order → IsSorted goes_before order
in_order [] up k d low lt = absurd (omega (arith, lt))
in_order (a ∷ more) up zero d low lt = second a more d (omega (arith, lt)) up.0
in_order (a ∷ more) up (suc k) d low lt = let e : suc k + 1 ≡ suc (k + 1) = omega arith in rw e (in_order more up.1 k d (omega arith) (omega (arith, lt)))

pub arranged_sorted : (order : List Ranked) → IsSorted goes_before (arranged order)
arranged_sorted order = in_order (arranged order) (rises order)

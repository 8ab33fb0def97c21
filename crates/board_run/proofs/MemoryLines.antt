-- Regions by their bases, and bytes in a row.
use Rattle.std.proofs.Common.{◌≡◌, ℕ, zero, suc, ◌+◌, ◌<◌, Bool, true, false, ◌&&◌, List, [], ◌∷◌, ◌++◌, length, drop, get_or, Option, Some, None, refl, ap, ◌∙◌, arith, cond, add-one}
use Rattle.std.specs.Prelude.{find}
use Rattle.std.specs.List.{flat_map, list_all, range_with_len}

-- ## a search in a list, and in one list after the other

after_test : {X : Type 0} (b : Bool) (x : X) (first whole rest : Option X) → cond b (Some x) first ≡ None → (first ≡ None → whole ≡ rest) → cond b (Some x) whole ≡ rest
after_test true x first whole rest e more = absurd (cc)
after_test false x first whole rest e more = more e

-- what is not among the first is among the rest
find_after : {X : Type 0} (test : X → Bool) (xs ys : List X) → find test xs ≡ None → find test (xs ++ ys) ≡ find test ys
find_after test [] ys e = refl
find_after test (x ∷ xs) ys e = after_test (test x) x (find test xs) (find test (xs ++ ys)) (find test ys) e (find_after test xs ys)

first_test : {X : Type 0} (b : Bool) (x y : X) (first whole : Option X) → cond b (Some x) first ≡ Some y → (first ≡ Some y → whole ≡ Some y) → cond b (Some x) whole ≡ Some y
first_test true x y first whole e more = e
first_test false x y first whole e more = more e

-- what is among the first is found there
find_first : {X : Type 0} (test : X → Bool) (xs ys : List X) (y : X) → find test xs ≡ Some y → find test (xs ++ ys) ≡ Some y
find_first test [] ys y e = absurd (cc)
find_first test (x ∷ xs) ys y e = first_test (test x) x y (find test xs) (find test (xs ++ ys)) e (find_first test xs ys y)

dropped : {X Y : Type 0} (f : X → List Y) (xs : List X) (i : ℕ) (d : X) → i < length xs → flat_map f (drop i xs) ≡ f (get_or xs i d) ++ flat_map f (drop (suc i) xs)
dropped f [] i d lt = absurd (omega arith)
dropped f (x ∷ xs) zero d lt = refl
dropped f (x ∷ xs) (suc i) d lt = dropped f xs i d (omega arith)

-- the search goes on with the next list, ends in this one, or at the last
pub find_on : {X Y : Type 0} (test : Y → Bool) (f : X → List Y) (xs : List X) (i : ℕ) (d : X) → i < length xs → find test (f (get_or xs i d)) ≡ None →
    find test (flat_map f (drop i xs)) ≡ find test (flat_map f (drop (i + 1) xs))
find_on test f xs i d lt none = rw add-one (ap (find test) (dropped f xs i d lt) ∙ find_after test (f (get_or xs i d)) (flat_map f (drop (suc i) xs)) none)

pub find_here : {X Y : Type 0} (test : Y → Bool) (f : X → List Y) (xs : List X) (i : ℕ) (d : X) (y : Y) → i < length xs → find test (f (get_or xs i d)) ≡ Some y →
    find test (flat_map f (drop i xs)) ≡ Some y
find_here test f xs i d y lt is = ap (find test) (dropped f xs i d lt) ∙ find_first test (f (get_or xs i d)) (flat_map f (drop (suc i) xs)) y is

pub find_none : {X Y : Type 0} (test : Y → Bool) (f : X → List Y) (xs : List X) (i : ℕ) → length xs ≡ i → find test (flat_map f (drop i xs)) ≡ None
find_none test f [] i e = rw (← e) refl
find_none test f (x ∷ xs) zero e = absurd (omega (arith, e))
find_none test f (x ∷ xs) (suc i) e = find_none test f xs i (omega (arith, e))

-- the same in one list
next_place : {X : Type 0} (test : X → Bool) (xs : List X) (i : ℕ) (d : X) → i < length xs → test (get_or xs i d) ≡ false → find test (drop i xs) ≡ find test (drop (suc i) xs)
next_place test [] i d lt e = absurd (omega arith)
next_place test (x ∷ xs) zero d lt e = ap (λ (b : Bool). cond b (Some x) (find test xs)) e
next_place test (x ∷ xs) (suc i) d lt e = next_place test xs i d (omega arith) e

pub find_at : {X : Type 0} (test : X → Bool) (xs : List X) (i : ℕ) (d : X) → i < length xs → test (get_or xs i d) ≡ true → find test (drop i xs) ≡ Some (get_or xs i d)
find_at test [] i d lt e = absurd (omega arith)
find_at test (x ∷ xs) zero d lt e = ap (λ (b : Bool). cond b (Some x) (find test xs)) e
find_at test (x ∷ xs) (suc i) d lt e = find_at test xs i d (omega arith) e

-- ## a test of each number of a range

pub range_false : (test : ℕ → Bool) (k n m : ℕ) → n ≡ suc m → test k ≡ false → list_all test (range_with_len k n) ≡ false
range_false test k n m is e = rw is (ap (λ (b : Bool). b && list_all test (range_with_len (k + 1) m)) e)

pub range_true : (test : ℕ → Bool) (k n m : ℕ) → n ≡ suc m → test k ≡ true → list_all test (range_with_len k n) ≡ list_all test (range_with_len (k + 1) m)
range_true test k n m is e = rw is (ap (λ (b : Bool). b && list_all test (range_with_len (k + 1) m)) e)

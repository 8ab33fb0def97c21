-- How often an item is in a list that changes.
use Rattle.std.proofs.Common.{◌≡◌, ◌+◌, ◌≤◌, ℕ, Bool, true, false, cond, List, [], ◌∷◌, ◌++◌, Some, None, inl, inr, refl, ap, arith, eqb}
use Rattle.std.specs.Prelude.{find, filter, map}
use Rattle.std.specs.List.{count_by}
use Rattle.std.proofs.lemmas.Bool.Decides.{eqb_tells}
use Rattle.std.proofs.lemmas.List.Sums.{sum_by-cons, sum_by-append}
use Rattle.words_core.proofs.Signs.{bit-le}

abbrev bit : Bool → ℕ
bit b = cond b 1 0

counted : {X : Type 0} (p : X → Bool) (x : X) (xs : List X) → count_by p (x ∷ xs) ≡ bit (p x) + count_by p xs
counted p x xs = sum_by-cons (λ y. cond (p y) 1 0) x xs

pub fewer_of : {X : Type 0} (p q : X → Bool) (xs : List X) → count_by p (filter q xs) ≤ count_by p xs
fewer_of p q [] = omega arith
fewer_of {X} p q (x ∷ xs) = by_test (q x) (fewer_of p q xs)
  where
    by_test : (kept : Bool) → count_by p (filter q xs) ≤ count_by p xs → count_by p (cond kept (x ∷ filter q xs) (filter q xs)) ≤ count_by p (x ∷ xs)
    by_test true h = let one = counted p x (filter q xs) in let two = counted p x xs in omega (arith, one, two, h)
    by_test false h = let two = counted p x xs in omega (arith, two, h)

pub as_many_of : {X : Type 0} (p : X → Bool) (f : X → X) (xs : List X) → ((x : X) → p (f x) ≡ p x) → count_by p (map f xs) ≡ count_by p xs
as_many_of p f [] same = refl
as_many_of p f (x ∷ xs) same =
    let rest = as_many_of p f xs same in
    let here : bit (p (f x)) ≡ bit (p x) = ap bit (same x) in
    let one = counted p (f x) (map f xs) in
    let two = counted p x xs in
    omega (arith, one, two, rest, here)

none_of : {X : Type 0} (p : X → Bool) (xs : List X) → find p xs ≡ None → count_by p xs ≡ 0
none_of p [] h = refl
none_of {X} p (x ∷ xs) h = by_test (p x) refl h (λ none. none_of p xs none)
  where
    by_test : (b : Bool) → p x ≡ b → cond b (Some x) (find p xs) ≡ None → (find p xs ≡ None → count_by p xs ≡ 0) → count_by p (x ∷ xs) ≡ 0
    by_test true e none rest = cc
    by_test false e none rest = let one = counted p x xs in let here : bit (p x) ≡ 0 = ap bit e in let nobody = rest none in omega (arith, one, here, nobody)

pushed : {X : Type 0} (p : X → Bool) (xs : List X) (x : X) → count_by p (xs ++ x ∷ []) ≡ count_by p xs + bit (p x)
pushed p xs x = let all = sum_by-append (λ y. cond (p y) 1 0) xs (x ∷ []) in let last = counted p x [] in omega (arith, all, last)

-- an item with a new key is in the list once
pub once_more : {X : Type 0} (key : X → ℕ) (xs : List X) (x : X) → ((i : ℕ) → count_by (λ y. eqb (key y) i) xs ≤ 1) → find (λ y. eqb (key y) (key x)) xs ≡ None → (i : ℕ) → count_by (λ y. eqb (key y) i) (xs ++ x ∷ []) ≤ 1
once_more key xs x once none i =
    let more = pushed (λ y. eqb (key y) i) xs x in
    elim (eqb_tells (key x) i) [
      | inl same ↦
          let nobody : count_by (λ y. eqb (key y) i) xs ≡ 0 = rw same.1 at (none_of (λ y. eqb (key y) (key x)) xs none) in
          let few = bit-le (eqb (key x) i) in
          omega (arith, more, nobody, few)
      | inr other ↦
          let here : bit (eqb (key x) i) ≡ 0 = ap bit other.0 in
          let few = once i in
          omega (arith, more, here, few)
    ]

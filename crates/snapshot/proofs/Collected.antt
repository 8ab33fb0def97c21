-- A list that is collected over the indices in order, with at most one item for each index. An item tells its
-- index.
use Rattle.std.proofs.Common.{◌≡◌, ◌≢◌, ◌∙◌, ◌+◌, ◌<◌, ◌≤◌, inl, inr, ℕ, zero, suc, Bool, true, false, cond, eqb, List, [], ◌∷◌, map, Option, Some, None, arith, ap, ap₂, refl, sym}
use Rattle.std.specs.Prelude.{Contains, find, filter_map, count_by}
use Rattle.std.specs.List.{range_with_len, cons_option}
use Rattle.std.proofs.lemmas.Bool.Decides.{eqb_tells}
use Rattle.std.proofs.lemmas.List.Sums.{sum_by-cons}
use Rattle.std.proofs.lemmas.Bool.{eq-eqb, ne_eqb}

module _ {X : Type 0} (key : X → ℕ) (of : ℕ → Option X) (keyed : (i : ℕ) (x : X) → of i ≡ Some x → key x ≡ i) where
  abbrev all : ℕ → ℕ → List X
  all a n = filter_map of (range_with_len a n)

  abbrev has_key : ℕ → X → Bool
  has_key j x = eqb (key x) j

  -- one that has another key is passed over
  passed : (j : ℕ) (o : Option X) (xs : List X) → ((x : X) → o ≡ Some x → key x ≢ j) → find (has_key j) (cons_option o xs) ≡ find (has_key j) xs
  passed j None xs other = refl
  passed j (Some x) xs other = let no = ne_eqb (key x) j (other x refl) in rw no refl

  lacking : (a n j : ℕ) → j < a → find (has_key j) (all a n) ≡ None
  lacking a zero j lt = refl
  lacking a (suc n) j lt = passed j (of a) (all (a + 1) n) (λ x is same. omega (arith, keyed a x is, same, lt)) ∙ lacking (a + 1) n j (omega arith)

  pub found : (a n j : ℕ) → a ≤ j → j < a + n → find (has_key j) (all a n) ≡ of j
  found a zero j from below = absurd (omega arith)
  found a (suc n) j from below = elim (eqb_tells j a) [
    | inl same ↦ let at : j ≡ a = same.1 in here (of a) at refl
    | inr other ↦ let ne : j ≢ a = other.1 in passed j (of a) (all (a + 1) n) (λ x is same. ne (sym same ∙ keyed a x is)) ∙ found (a + 1) n j (omega arith) (omega arith)
  ]
    where
      here : (o : Option X) → j ≡ a → of a ≡ o → find (has_key j) (cons_option o (all (a + 1) n)) ≡ of j
      here None at is = lacking (a + 1) n j (omega arith) ∙ sym is ∙ ap of (sym at)
      here (Some x) at is = let yes = eq-eqb (key x) j (keyed a x is ∙ sym at) in rw yes (sym is ∙ ap of (sym at))

  pub collected : (a n : ℕ) (x : X) → Contains (all a n) x → (i : ℕ) × (a ≤ i) × (i < a + n) × (of i ≡ Some x)
  collected a zero x h = absurd (omega (arith, h.1))
  collected a (suc n) x h = by (of a) refl h (λ there. let r = collected (a + 1) n x there in (r.0, omega (arith, r.1), omega (arith, r.2), r.3))
    where
      by : (o : Option X) → of a ≡ o → Contains (cons_option o (all (a + 1) n)) x → (Contains (all (a + 1) n) x → (i : ℕ) × (a ≤ i) × (i < a + suc n) × (of i ≡ Some x)) → (i : ℕ) × (a ≤ i) × (i < a + suc n) × (of i ≡ Some x)
      by None is h later = later h
      by (Some y) is (zero, lt, same) later = let e : y ≡ x = same in (a, omega arith, omega arith, is ∙ ap Some e)
      by (Some y) is (suc k, lt, same) later = later (k, omega (arith, lt), same)

  counted : (j : ℕ) (o : Option X) (xs : List X) → ((x : X) → o ≡ Some x → key x ≢ j) → count_by (has_key j) (cons_option o xs) ≡ count_by (has_key j) xs
  counted j None xs other = refl
  counted j (Some x) xs other = let no = ne_eqb (key x) j (other x refl) in
      let zero : cond (has_key j x) 1 0 ≡ 0 = ap (λ b. cond b 1 0) no in
      sum_by-cons (λ y. cond (has_key j y) 1 0) x xs ∙ ap (λ m. m + count_by (has_key j) xs) zero ∙ front (count_by (has_key j) xs)
    where
      front : (m : ℕ) → 0 + m ≡ m
      front m = omega arith

  none_counted : (a n j : ℕ) → j < a → count_by (has_key j) (all a n) ≡ 0
  none_counted a zero j lt = refl
  none_counted a (suc n) j lt = counted j (of a) (all (a + 1) n) (λ x is same. omega (arith, keyed a x is, same, lt)) ∙ none_counted (a + 1) n j (omega arith)

  bit_most : (b : Bool) → cond b 1 0 ≤ 1
  bit_most true = omega arith
  bit_most false = omega arith

  pub once : (a n j : ℕ) → count_by (has_key j) (all a n) ≤ 1
  once a zero j = omega arith
  once a (suc n) j = elim (eqb_tells j a) [
    | inl same ↦ let at : j ≡ a = same.1 in here (of a) (none_counted (a + 1) n j (omega (arith, at)))
    | inr other ↦ let ne : j ≢ a = other.1 in let e = counted j (of a) (all (a + 1) n) (λ x is same. ne (sym same ∙ keyed a x is)) in let h = once (a + 1) n j in omega (arith, e, h)
  ]
    where
      here : (o : Option X) → count_by (has_key j) (all (a + 1) n) ≡ 0 → count_by (has_key j) (cons_option o (all (a + 1) n)) ≤ 1
      here None e = omega (arith, e)
      here (Some x) e = let one = sum_by-cons (λ y. cond (has_key j y) 1 0) x (all (a + 1) n) in let b = bit_most (has_key j x) in omega (arith, e, b, one)

-- a map that leaves each item leaves the list
pub map_same : {X : Type 0} (f : X → X) (xs : List X) → ((x : X) → Contains xs x → f x ≡ x) → map f xs ≡ xs
map_same f [] h = refl
map_same f (x ∷ xs) h = ap₂ (λ y ys. y ∷ ys) (h x (zero, omega arith, refl)) (map_same f xs (λ y c. h y (suc c.0, omega (arith, c.1), c.2)))

-- what is made of the indices in their order
pub made_of : {X : Type 0} (f : ℕ → X) (a n : ℕ) (x : X) → Contains (map f (range_with_len a n)) x → (i : ℕ) × (i < a + n) × (f i ≡ x)
made_of f a zero x h = absurd (omega (arith, h.1))
made_of f a (suc n) x (zero, lt, same) = let e : f a ≡ x = same in (a, omega arith, e)
made_of f a (suc n) x (suc k, lt, same) = let r = made_of f (a + 1) n x (k, omega (arith, lt), same) in (r.0, omega (arith, r.1), r.2)

-- A range of numbers that grows at its end.
use Rattle.std.proofs.Common.{◌≡◌, Contains, ◌+◌, ◌<◌, ℕ, zero, suc, Bool, true, false, ◌&&◌, cond, List, [], ◌∷◌, ◌++◌, filter, refl, sym, ◌∙◌, ap, arith, add-one, append-nil}
use Rattle.std.specs.List.{list_all, range_with_len}
use Rattle.std.proofs.lemmas.Bool.{false≢true}
use Rattle.std.proofs.lemmas.List.Elements.{filter-append}

range_end : (a n : ℕ) → range_with_len a (suc n) ≡ range_with_len a n ++ ((a + n) ∷ [])
range_end a zero =
    let is : a ≡ a + 0 = omega arith in
    ap (λ k. k ∷ []) is
range_end a (suc n) =
    let is : a + 1 + n ≡ a + suc n = omega arith in
    ap (λ w. a ∷ w) (range_end (a + 1) n ∙ ap (λ k. range_with_len (a + 1) n ++ (k ∷ [])) is)

grown : (n : ℕ) → range_with_len 0 (n + 1) ≡ range_with_len 0 n ++ (n ∷ [])
grown n =
    let is : 0 + n ≡ n = omega arith in
    rw add-one (range_end 0 n) ∙ ap (λ k. range_with_len 0 n ++ (k ∷ [])) is

all_end : (p : ℕ → Bool) (xs : List ℕ) (n : ℕ) → list_all p xs ≡ true → p n ≡ true → list_all p (xs ++ (n ∷ [])) ≡ true
all_end p [] n e h = rw h refl
all_end p (x ∷ xs) n e h = go (p x) e (λ f. all_end p xs n f h)
  where
    go : (b : Bool) → (b && list_all p xs) ≡ true → (list_all p xs ≡ true → list_all p (xs ++ (n ∷ [])) ≡ true) → (b && list_all p (xs ++ (n ∷ []))) ≡ true
    go true f rest = rest f
    go false f rest = f

-- what holds of each number so far, and of the next one
pub all_more : (p : ℕ → Bool) (n : ℕ) → list_all p (range_with_len 0 n) ≡ true → p n ≡ true → list_all p (range_with_len 0 (n + 1)) ≡ true
all_more p n e h = rw (grown n) (all_end p (range_with_len 0 n) n e h)

fails_from : (p : ℕ → Bool) (a n k : ℕ) → k < n → p (a + k) ≡ false → list_all p (range_with_len a n) ≡ false
fails_from p a zero k lt e = absurd (omega (arith, lt))
fails_from p a (suc n) zero lt e =
    let is : a + 0 ≡ a = omega arith in
    ap (λ b. b && list_all p (range_with_len (a + 1) n)) (ap p (sym is) ∙ e)
fails_from p a (suc n) (suc k) lt e =
    let is : a + 1 + k ≡ a + suc k = omega arith in
    ap (λ b. p a && b) (fails_from p (a + 1) n k (omega arith) (ap p is ∙ e)) ∙ never (p a)
  where
    never : (b : Bool) → (b && false) ≡ false
    never true = refl
    never false = refl

-- what fails of one number does not hold of all
pub all_fails : (p : ℕ → Bool) (n k : ℕ) → k < n → p k ≡ false → list_all p (range_with_len 0 n) ≡ false
all_fails p n k lt e =
    let is : 0 + k ≡ k = omega arith in
    fails_from p 0 n k lt (ap p is ∙ e)

-- the numbers that pass, with the next one
pub kept_more : (p : ℕ → Bool) (n : ℕ) → p n ≡ true → filter p (range_with_len 0 (n + 1)) ≡ filter p (range_with_len 0 n) ++ (n ∷ [])
kept_more p n e = ap (filter p) (grown n) ∙ filter-append p (range_with_len 0 n) (n ∷ []) ∙ ap (λ b. filter p (range_with_len 0 n) ++ cond b (n ∷ []) []) e

pub kept_still : (p : ℕ → Bool) (n : ℕ) → p n ≡ false → filter p (range_with_len 0 (n + 1)) ≡ filter p (range_with_len 0 n)
kept_still p n e = ap (filter p) (grown n) ∙ filter-append p (range_with_len 0 n) (n ∷ []) ∙ ap (λ b. filter p (range_with_len 0 n) ++ cond b (n ∷ []) []) e ∙ append-nil (filter p (range_with_len 0 n))

-- what holds of all holds of each
pub all_of : (p : ℕ → Bool) (n k : ℕ) → list_all p (range_with_len 0 n) ≡ true → k < n → p k ≡ true
all_of p n k e lt = go (p k) refl
  where
    go : (b : Bool) → p k ≡ b → p k ≡ true
    go true h = h
    go false h = absurd (false≢true (sym (all_fails p n k lt h) ∙ e))

kept_from : (p : ℕ → Bool) (a n i : ℕ) → Contains (filter p (range_with_len a n)) i → (i < a + n) × (p i ≡ true)
kept_from p a zero i here = absurd (omega (arith, here.1))
kept_from p a (suc n) i here = go (p a) refl here (kept_from p (a + 1) n i)
  where
    Later : Type 0
    Later = Contains (filter p (range_with_len (a + 1) n)) i → (i < a + 1 + n) × (p i ≡ true)

    later : (i < a + 1 + n) × (p i ≡ true) → (i < a + suc n) × (p i ≡ true)
    later h = (omega (arith, h.0), h.1)

    go : (b : Bool) → p a ≡ b → Contains (cond b (a ∷ filter p (range_with_len (a + 1) n)) (filter p (range_with_len (a + 1) n))) i → Later → (i < a + suc n) × (p i ≡ true)
    go false e h rest = later (rest h)
    go true e (zero, lt, same) rest = (omega (arith, same), ap p (sym same) ∙ e)
    go true e (suc k, lt, same) rest = later (rest (k, omega arith, same))

-- who is among those that pass is in the range, and passes
pub kept_is : (p : ℕ → Bool) (n i : ℕ) → Contains (filter p (range_with_len 0 n)) i → (i < n) × (p i ≡ true)
kept_is p n i here = let h = kept_from p 0 n i here in (omega (arith, h.0), h.1)

-- The first number that passes a test among consecutive numbers.
use Rattle.std.proofs.Common.{◌≡◌, ◌+◌, ◌<◌, ℕ, zero, suc, Bool, true, false, cond, Some, None, refl, sym, ◌∙◌, ap, arith}
use Rattle.std.specs.Prelude.{find}
use Rattle.std.specs.List.{range_with_len}

some_none : {x : ℕ} → Some x ≡ None → ⊥
some_none e = cc

-- after some numbers that do not pass: the next one passes, or does not pass either
pub found_next : (p : ℕ → Bool) (i k n : ℕ) → find p (range_with_len i k) ≡ None → p (i + k) ≡ true → k < n → find p (range_with_len i n) ≡ Some (i + k)
found_next p i zero zero none here below = absurd (omega arith)
found_next p i zero (suc n) none here below =
    let z : i + 0 ≡ i = omega arith in
    let now : p i ≡ true = ap p (sym z) ∙ here in
    rw (now, z) refl
found_next p i (suc k) zero none here below = absurd (omega arith)
found_next p i (suc k) (suc n) none here below =
    let z : i + 1 + k ≡ i + suc k = omega arith in
    go (p i) none (λ e. found_next p (i + 1) k n e (ap p z ∙ here) (omega arith) ∙ ap Some z)
  where
    go : (b : Bool) → cond b (Some i) (find p (range_with_len (i + 1) k)) ≡ None → (find p (range_with_len (i + 1) k) ≡ None → find p (range_with_len (i + 1) n) ≡ Some (i + suc k)) → cond b (Some i) (find p (range_with_len (i + 1) n)) ≡ Some (i + suc k)
    go true e later = absurd (some_none e)
    go false e later = later e

none_suc : (p : ℕ → Bool) (i k : ℕ) → find p (range_with_len i k) ≡ None → p (i + k) ≡ false → find p (range_with_len i (suc k)) ≡ None
none_suc p i zero none here =
    let z : i + 0 ≡ i = omega arith in
    let now : p i ≡ false = ap p (sym z) ∙ here in
    rw now refl
none_suc p i (suc k) none here =
    let z : i + 1 + k ≡ i + suc k = omega arith in
    go (p i) none (λ e. none_suc p (i + 1) k e (ap p z ∙ here))
  where
    go : (b : Bool) → cond b (Some i) (find p (range_with_len (i + 1) k)) ≡ None → (find p (range_with_len (i + 1) k) ≡ None → find p (range_with_len (i + 1) (suc k)) ≡ None) → cond b (Some i) (find p (range_with_len (i + 1) (suc k))) ≡ None
    go true e later = e
    go false e later = later e

pub none_next : (p : ℕ → Bool) (i k : ℕ) → find p (range_with_len i k) ≡ None → p (i + k) ≡ false → find p (range_with_len i (k + 1)) ≡ None
none_next p i k none here = let e : suc k ≡ k + 1 = omega arith in ap (λ n. find p (range_with_len i n)) (sym e) ∙ none_suc p i k none here

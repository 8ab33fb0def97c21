-- Questions about registers, one by one.
use Rattle.std.proofs.Common.{◌≡◌, ℕ, suc, zero, ◌+◌, ◌<◌, refl, ap, ◌∙◌, arith, subst, add-one, Bool, true, false, ◌||◌, nat_eq}
use Rattle.std.proofs.lemmas.Bool.{or_from, or_left}
use Rattle.thumb_asm.specs.Sizes.{any_below}

or_right : (b : Bool) → (b || true) ≡ true
or_right true = refl
or_right false = refl

pub any_start : (p : ℕ → Bool) → any_below p 0 ≡ false
unfolding any_below
any_start p = refl

any_more : (p : ℕ → Bool) (k : ℕ) → any_below p (suc k) ≡ (any_below p k || p k)
unfolding any_below
any_more p k = refl

pub any_next : (p : ℕ → Bool) (k : ℕ) → any_below p k ≡ false → p k ≡ false → any_below p (k + 1) ≡ false
any_next p k h q = ap (any_below p) (add-one k) ∙ any_more p k ∙ or_from (any_below p k) (p k) h q

any_case : (p : ℕ → Bool) (k r : ℕ) → r < suc k → p r ≡ true → (r < k → any_below p k ≡ true) → (b : Bool) → nat_eq r k ≡ b → (any_below p k || p k) ≡ true
any_case p k r lt h ih true e = let same : r ≡ k = grind arith in ap (λ q. any_below p k || q) (subst (λ n. p n ≡ true) same h) ∙ or_right (any_below p k)
any_case p k r lt h ih false e = let other : r < k = grind arith in or_left (any_below p k) (p k) (ih other)

pub any_found : (p : ℕ → Bool) (k r : ℕ) → r < k → p r ≡ true → any_below p k ≡ true
any_found p zero r lt h = absurd (omega arith)
any_found p (suc k) r lt h = any_more p k ∙ any_case p k r lt h (λ l. any_found p k r l h) (nat_eq r k) refl

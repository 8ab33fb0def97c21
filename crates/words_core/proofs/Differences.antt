-- What comparing two words says of their difference: the first is the smaller one in signed order exactly if
-- N xor V.
use Rattle.std.proofs.Common.{◌≡◌, ℕ, suc, ◌+◌, ◌-◌, ◌%◌, ◌<◌, ◌≤◌, Bool, true, false, arith, refl, sym, ◌∙◌, ap, leb, ltb, eqb, inl, inr, ◌⊎◌, pos, ◌+ℤ◌}
use Rattle.std.specs.Prelude.{not}
use mathlib.Core.Bool.{beq}
use lib.Signed.{lt_z}
use mir.Syntax.{w32}
use mir.Val.{to_z}
use Rattle.std.proofs.lemmas.Bool.{le-leb, lt-leb, lt-ltb, le-ltb}
use Rattle.std.proofs.lemmas.Bool.Decides.{nat_tests}
use Rattle.words_core.specs.Words.{awc, complement, negative, is_over, is_outside, signed}
use Rattle.words_core.proofs.Signs.{below_or, over_is}

-- a difference modulo 2 ^ 32
abbrev pub minus : ℕ → ℕ → ℕ
minus x y = (x + (4294967296 - y)) % 4294967296

abbrev differ : Bool → Bool → Bool
differ a b = not (beq a b)

differ_same : (a b : Bool) → a ≡ b → differ a b ≡ false
differ_same true true e = refl
differ_same false false e = refl
differ_same true false e = absurd cc
differ_same false true e = absurd cc

differ_false : (s : Bool) → differ false s ≡ s
differ_false true = refl
differ_false false = refl

differ_true : (s : Bool) → differ true s ≡ not s
differ_true true = refl
differ_true false = refl

low_order : (x y : ℕ) → x < 2147483648 → y < 2147483648 → ltb x y ≡ leb 2147483648 (minus x y)
low_order x y hx hy = grind (arith, nat_tests)

high_order : (x y : ℕ) → 2147483648 ≤ x → x < 4294967296 → 2147483648 ≤ y → y < 4294967296 → ltb (4294967296 - suc y) (4294967296 - suc x) ≡ leb 2147483648 (minus x y)
high_order x y lx hx ly hy = grind (arith, nat_tests)

-- by the signs of the two words
order_is : (x y : ℕ) → x < 4294967296 → y < 4294967296 → differ (lt_z (to_z w32 x) (to_z w32 y)) (negative (minus x y)) ≡ is_over (negative x) (negative (complement y)) (negative (minus x y))
order_is x y hx hy = by (below_or x) (below_or y)
  where
    by : (x < 2147483648) ⊎ (2147483648 ≤ x) → (y < 2147483648) ⊎ (2147483648 ≤ y) → differ (lt_z (to_z w32 x) (to_z w32 y)) (negative (minus x y)) ≡ is_over (negative x) (negative (complement y)) (negative (minus x y))
    by (inl a) (inl b) = rw (lt-ltb x 2147483648 a, lt-ltb y 2147483648 b, lt-leb 2147483648 x a, le-leb 2147483648 (4294967295 - y) (omega arith)) (differ_same _ _ (low_order x y a b))
    by (inl a) (inr b) = rw (lt-ltb x 2147483648 a, le-ltb y 2147483648 b, lt-leb 2147483648 x a, lt-leb 2147483648 (4294967295 - y) (omega arith)) (differ_false (negative (minus x y)))
    by (inr a) (inl b) = rw (le-ltb x 2147483648 a, lt-ltb y 2147483648 b, le-leb 2147483648 x a, le-leb 2147483648 (4294967295 - y) (omega arith)) (differ_true (negative (minus x y)))
    by (inr a) (inr b) = rw (le-ltb x 2147483648 a, le-ltb y 2147483648 b, le-leb 2147483648 x a, lt-leb 2147483648 (4294967295 - y) (omega arith)) (differ_same _ _ (high_order x y a hx b hy))

whole : (x y : ℕ) → y < 4294967296 → x + (4294967295 - y) + 1 ≡ x + (4294967296 - y)
whole x y hy = omega arith

same_is_zero : (x y : ℕ) → x < 4294967296 → y < 4294967296 → eqb (minus x y) 0 ≡ eqb x y
same_is_zero x y hx hy = grind (arith, nat_tests)

no_borrow : (x y : ℕ) → x < 4294967296 → y < 4294967296 → leb 4294967296 (x + (4294967296 - y)) ≡ leb y x
no_borrow x y hx hy = grind (arith, nat_tests)

over : (x y : ℕ) → x < 4294967296 → y < 4294967296 → is_outside ((signed x +ℤ signed (complement y)) +ℤ pos 1) ≡ differ (lt_z (to_z w32 x) (to_z w32 y)) (negative (minus x y))
over x y hx hy = sym (order_is x y hx hy ∙ ap (λ (s : ℕ). is_over (negative x) (negative (complement y)) (negative (s % 4294967296))) (sym (whole x y hy)) ∙ over_is x (complement y) true hx (omega arith))

-- a difference with its flags, by comparisons
pub difference_is : (x y : ℕ) → x < 4294967296 → y < 4294967296 → (minus x y, record { n = negative (minus x y); z = eqb x y; c = leb y x; v = differ (lt_z (to_z w32 x) (to_z w32 y)) (negative (minus x y)) }) ≡ awc x (complement y) true
difference_is x y hx hy = rw (over x y hx hy, whole x y hy, same_is_zero x y hx hy, no_borrow x y hx hy) refl

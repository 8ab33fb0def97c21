-- A sum less its second word overflows where the sum does.
use Rattle.std.proofs.Common.{◌≡◌, ℕ, ◌+◌, ◌-◌, ◌%◌, ◌<◌, ◌≤◌, true, false, pos, negsuc, ◌+ℤ◌, arith, inl, inr, ◌⊎◌}
use Rattle.std.proofs.lemmas.Int.{ints}
use Rattle.std.proofs.lemmas.Bool.{lt-ltb, le-ltb, cases_lt}
use Rattle.std.proofs.lemmas.Bool.Decides.{nat_tests}
use Rattle.words_core.specs.Words.{awc, complement, is_outside}

low_low_low : (x y v : ℕ) → v ≡ (x + y) % 4294967296 → x < 2147483648 → y < 2147483648 → v < 2147483648 → is_outside ((pos v +ℤ negsuc (4294967295 - (4294967295 - y))) +ℤ pos 1) ≡ is_outside ((pos x +ℤ pos y) +ℤ pos 0)
low_low_low x y v e hx hy hv = grind (arith, ints, nat_tests)

low_low_high : (x y v : ℕ) → v ≡ (x + y) % 4294967296 → x < 2147483648 → y < 2147483648 → 2147483648 ≤ v → v < 4294967296 → is_outside ((negsuc (4294967295 - v) +ℤ negsuc (4294967295 - (4294967295 - y))) +ℤ pos 1) ≡ is_outside ((pos x +ℤ pos y) +ℤ pos 0)
low_low_high x y v e hx hy lv hv = grind (arith, ints, nat_tests)

low_high_low : (x y v : ℕ) → v ≡ (x + y) % 4294967296 → x < 2147483648 → 2147483648 ≤ y → y < 4294967296 → v < 2147483648 → is_outside ((pos v +ℤ pos (4294967295 - y)) +ℤ pos 1) ≡ is_outside ((pos x +ℤ negsuc (4294967295 - y)) +ℤ pos 0)
low_high_low x y v e hx ly hy hv = grind (arith, ints, nat_tests)

low_high_high : (x y v : ℕ) → v ≡ (x + y) % 4294967296 → x < 2147483648 → 2147483648 ≤ y → y < 4294967296 → 2147483648 ≤ v → v < 4294967296 → is_outside ((negsuc (4294967295 - v) +ℤ pos (4294967295 - y)) +ℤ pos 1) ≡ is_outside ((pos x +ℤ negsuc (4294967295 - y)) +ℤ pos 0)
low_high_high x y v e hx ly hy lv hv = grind (arith, ints, nat_tests)

high_low_low : (x y v : ℕ) → v ≡ (x + y) % 4294967296 → 2147483648 ≤ x → x < 4294967296 → y < 2147483648 → v < 2147483648 → is_outside ((pos v +ℤ negsuc (4294967295 - (4294967295 - y))) +ℤ pos 1) ≡ is_outside ((negsuc (4294967295 - x) +ℤ pos y) +ℤ pos 0)
high_low_low x y v e lx hx hy hv = grind (arith, ints, nat_tests)

high_low_high : (x y v : ℕ) → v ≡ (x + y) % 4294967296 → 2147483648 ≤ x → x < 4294967296 → y < 2147483648 → 2147483648 ≤ v → v < 4294967296 → is_outside ((negsuc (4294967295 - v) +ℤ negsuc (4294967295 - (4294967295 - y))) +ℤ pos 1) ≡ is_outside ((negsuc (4294967295 - x) +ℤ pos y) +ℤ pos 0)
high_low_high x y v e lx hx hy lv hv = grind (arith, ints, nat_tests)

high_high_low : (x y v : ℕ) → v ≡ (x + y) % 4294967296 → 2147483648 ≤ x → x < 4294967296 → 2147483648 ≤ y → y < 4294967296 → v < 2147483648 → is_outside ((pos v +ℤ pos (4294967295 - y)) +ℤ pos 1) ≡ is_outside ((negsuc (4294967295 - x) +ℤ negsuc (4294967295 - y)) +ℤ pos 0)
high_high_low x y v e lx hx ly hy hv = grind (arith, ints, nat_tests)

high_high_high : (x y v : ℕ) → v ≡ (x + y) % 4294967296 → 2147483648 ≤ x → x < 4294967296 → 2147483648 ≤ y → y < 4294967296 → 2147483648 ≤ v → v < 4294967296 → is_outside ((negsuc (4294967295 - v) +ℤ pos (4294967295 - y)) +ℤ pos 1) ≡ is_outside ((negsuc (4294967295 - x) +ℤ negsuc (4294967295 - y)) +ℤ pos 0)
high_high_high x y v e lx hx ly hy lv hv = grind (arith, ints, nat_tests)

half : (x : ℕ) → (x < 2147483648) ⊎ (2147483648 ≤ x)
half x = cases_lt x 2147483648

by_signs : (x y v : ℕ) → v ≡ (x + y) % 4294967296 → x < 4294967296 → y < 4294967296 → v < 4294967296 → (awc v (complement y) true).1.v ≡ (awc x y false).1.v
by_signs x y v e hx hy hv = by (half x) (half y) (half v)
  where
    by : (x < 2147483648) ⊎ (2147483648 ≤ x) → (y < 2147483648) ⊎ (2147483648 ≤ y) → (v < 2147483648) ⊎ (2147483648 ≤ v) → (awc v (complement y) true).1.v ≡ (awc x y false).1.v
    by (inl a) (inl b) (inl c) = rw (lt-ltb x 2147483648 a, lt-ltb y 2147483648 b, lt-ltb v 2147483648 c, le-ltb (4294967295 - y) 2147483648 (omega arith)) (low_low_low x y v e a b c)
    by (inl a) (inl b) (inr c) = rw (lt-ltb x 2147483648 a, lt-ltb y 2147483648 b, le-ltb v 2147483648 c, le-ltb (4294967295 - y) 2147483648 (omega arith)) (low_low_high x y v e a b c hv)
    by (inl a) (inr b) (inl c) = rw (lt-ltb x 2147483648 a, le-ltb y 2147483648 b, lt-ltb v 2147483648 c, lt-ltb (4294967295 - y) 2147483648 (omega arith)) (low_high_low x y v e a b hy c)
    by (inl a) (inr b) (inr c) = rw (lt-ltb x 2147483648 a, le-ltb y 2147483648 b, le-ltb v 2147483648 c, lt-ltb (4294967295 - y) 2147483648 (omega arith)) (low_high_high x y v e a b hy c hv)
    by (inr a) (inl b) (inl c) = rw (le-ltb x 2147483648 a, lt-ltb y 2147483648 b, lt-ltb v 2147483648 c, le-ltb (4294967295 - y) 2147483648 (omega arith)) (high_low_low x y v e a hx b c)
    by (inr a) (inl b) (inr c) = rw (le-ltb x 2147483648 a, lt-ltb y 2147483648 b, le-ltb v 2147483648 c, le-ltb (4294967295 - y) 2147483648 (omega arith)) (high_low_high x y v e a hx b c hv)
    by (inr a) (inr b) (inl c) = rw (le-ltb x 2147483648 a, le-ltb y 2147483648 b, lt-ltb v 2147483648 c, lt-ltb (4294967295 - y) 2147483648 (omega arith)) (high_high_low x y v e a hx b hy c)
    by (inr a) (inr b) (inr c) = rw (le-ltb x 2147483648 a, le-ltb y 2147483648 b, le-ltb v 2147483648 c, lt-ltb (4294967295 - y) 2147483648 (omega arith)) (high_high_high x y v e a hx b hy c hv)

pub sum_over : (x y : ℕ) → x < 4294967296 → y < 4294967296 → (awc (awc x y false).0 (complement y) true).1.v ≡ (awc x y false).1.v
sum_over x y hx hy = by_signs x y ((x + y + 0) % 4294967296) (omega arith) hx hy (omega arith)

-- The sizes of regions are powers of two, from 256 to 2 ^ 20.
use Rattle.std.proofs.Common.{◌≡◌, ℕ, suc, true, ◌*◌, ◌%◌, ◌≤◌, nat_le, refl, arith, inl, inr}
use Rattle.std.proofs.lemmas.Bool.{cases_Bool}
use Rattle.region_check.specs.Sizes.{is_size}
use Rattle.mem_plan.specs.Sizes.{doubled, rounded}

step : (P : ℕ → Type 0) (k p s : ℕ) → P p → P (doubled k (2 * p) s) → P (doubled (suc k) p s)
step P k p s here there = elim (cases_Bool (nat_le s p)) [
  | inl fits ↦ rw fits here
  | inr more ↦ rw more there
]

-- what holds of each of them
pub rounded_cases : (P : ℕ → Type 0) → P 256 → P 512 → P 1024 → P 2048 → P 4096 → P 8192 → P 16384 → P 32768 → P 65536 → P 131072 → P 262144 → P 524288 → P 1048576
    → (s : ℕ) → P (rounded s)
rounded_cases P a b c d e f g h i j k l m s =
    step P 11 256 s a (step P 10 512 s b (step P 9 1024 s c (step P 8 2048 s d (step P 7 4096 s e (step P 6 8192 s f
    (step P 5 16384 s g (step P 4 32768 s h (step P 3 65536 s i (step P 2 131072 s j (step P 1 262144 s k (step P 0 524288 s l m)))))))))))

pub is_sized : (s : ℕ) → is_size (rounded s) ≡ true
unfolding is_size
is_sized s = rounded_cases (λ n. is_size n ≡ true) refl refl refl refl refl refl refl refl refl refl refl refl refl s

pub fours : (base s : ℕ) → base % rounded s ≡ 0 → base % 4 ≡ 0
fours base s = rounded_cases (λ n. base % n ≡ 0 → base % 4 ≡ 0)
    (λ e. omega (arith, e)) (λ e. omega (arith, e)) (λ e. omega (arith, e)) (λ e. omega (arith, e)) (λ e. omega (arith, e))
    (λ e. omega (arith, e)) (λ e. omega (arith, e)) (λ e. omega (arith, e)) (λ e. omega (arith, e)) (λ e. omega (arith, e))
    (λ e. omega (arith, e)) (λ e. omega (arith, e)) (λ e. omega (arith, e)) s

pub some_size : (s : ℕ) → 256 ≤ rounded s
some_size s = rounded_cases (λ n. 256 ≤ n) (omega arith) (omega arith) (omega arith) (omega arith) (omega arith) (omega arith) (omega arith) (omega arith)
    (omega arith) (omega arith) (omega arith) (omega arith) (omega arith) s

-- Each placed base is a multiple of its size.
use Rattle.std.proofs.Common.{◌≡◌, ◌∙◌, ℕ, zero, suc, Bool, true, ◌+◌, ◌*◌, ◌≤◌, ◌<◌, List, [], ◌∷◌, map, sym, subst, ap, arith, nat_le, nat_lt, length, take, drop, get_or, inl, inr}
use Rattle.std.specs.Prelude.{if◌then◌else◌}
use Rattle.std.proofs.lemmas.Bool.{cases_Bool, leb-true}
use Rattle.std.proofs.lemmas.Bool.Decides.{nat_tests}
use Rattle.std.proofs.Math.ListN.{get_or-map}
use Rattle.std.proofs.lemmas.List.{take-map, drop-map, length-map, get_or_default}
use Rattle.std.proofs.lemmas.List.Sums.{sum_by-cons}
use Rattle.mem_plan.specs.Placing.{IsMultiple, placed}
use Rattle.mem_plan.specs.Sizes.{doubled, rounded, sum_where}
use Rattle.mem_plan.proofs.Facts.{at_least}

mult_add : (r x y : ℕ) → IsMultiple r x → IsMultiple r y → IsMultiple r (x + y)
mult_add r x y (k, e) (l, f) = (k + l, grind arith)

mult_zero : (r : ℕ) → IsMultiple r 0
mult_zero r = (0, omega arith)

mult_itself : (r : ℕ) → IsMultiple r r
mult_itself r = (1, omega arith)

mult_more : (p q x : ℕ) → IsMultiple (2 * p) x → IsMultiple p x
mult_more p q x (k, e) = (2 * k, grind arith)

first_divides : (k p size : ℕ) → IsMultiple p (doubled k p size)
first_divides zero p size = mult_itself p
first_divides (suc k) p size = elim (cases_Bool (nat_le size p)) [
  | inl fits ↦ rw fits (mult_itself p)
  | inr more ↦ rw more (mult_more p p (doubled k (2 * p) size) (first_divides k (2 * p) size))
]

chain : (k p a b : ℕ) → 0 < p → doubled k p a ≤ doubled k p b → IsMultiple (doubled k p a) (doubled k p b)
chain zero p a b pos le = mult_itself p
chain (suc k) p a b pos le = elim (cases_Bool (nat_le a p)) [
  | inl fits ↦ rw fits (first_divides (suc k) p b)
  | inr more ↦ elim (cases_Bool (nat_le b p)) [
    | inl small ↦ let down : doubled k (2 * p) a ≤ p = rw (more, small) at le in absurd (omega (arith, down, at_least k (2 * p) a, pos))
    | inr large ↦ let down : doubled k (2 * p) a ≤ doubled k (2 * p) b = rw (more, large) at le in rw (more, large) (chain k (2 * p) a b (omega (arith, pos)) down)
  ]
]

ladder : (a b : ℕ) → rounded a ≤ rounded b → IsMultiple (rounded a) (rounded b)
ladder a b le = chain 12 256 a b (omega arith) le

picked : (x s : ℕ) (test : ℕ → Bool) → ((s : ℕ) → test s ≡ true → rounded x ≤ s) → IsMultiple (rounded x) (if test (rounded s) then rounded s else 0)
picked x s test h = elim (cases_Bool (test (rounded s))) [
  | inl fits ↦ rw fits (ladder x s (h (rounded s) fits))
  | inr not_it ↦ rw not_it (mult_zero (rounded x))
]

sums : (x : ℕ) (test : ℕ → Bool) → ((s : ℕ) → test s ≡ true → rounded x ≤ s) → (sizes : List ℕ) → IsMultiple (rounded x) (sum_where test (map rounded sizes))
sums x test h [] = mult_zero (rounded x)
sums x test h (s ∷ sizes) =
    let cons = sum_by-cons (λ (r : ℕ). if test r then r else 0) (rounded s) (map rounded sizes) in
    rw cons (mult_add (rounded x) _ _ (picked x s test h) (sums x test h sizes))

abbrev last_power : ℕ → ℕ → ℕ
last_power zero p = p
last_power (suc k) p = last_power k (2 * p)

below_last : (k p : ℕ) → p ≤ last_power k p
below_last zero p = omega arith
below_last (suc k) p = omega (arith, below_last k (2 * p))

at_most : (k p size : ℕ) → doubled k p size ≤ last_power k p
at_most zero p size = omega arith
at_most (suc k) p size = elim (cases_Bool (nat_le size p)) [
  | inl fits ↦ rw fits (omega (arith, below_last k (2 * p)))
  | inr more ↦ rw more (at_most k (2 * p) size)
]

mult_trans : (r x y : ℕ) → IsMultiple r x → IsMultiple x y → IsMultiple r y
mult_trans r x y (k, e) (l, f) = let assoc : r * k * l ≡ r * (k * l) = grind arith in (k * l, f ∙ ap (λ (n : ℕ). n * l) e ∙ assoc)

above_size : (r s : ℕ) → nat_lt r s ≡ true → r ≤ s
above_size r s e = grind (arith, nat_tests)

pub aligned : (sizes : List ℕ) (base i : ℕ) → i < length sizes → IsMultiple 1048576 base
    → IsMultiple (get_or (map rounded sizes) i 0) (placed base (map rounded sizes) i)
aligned sizes base i lt whole =
    let x = get_or sizes i 0 in
    let r = rounded x in
    let rs = map rounded sizes in
    let is : get_or rs i 0 ≡ r = get_or_default rs i 0 (rounded 0) (omega (arith, lt, length-map sizes rounded)) ∙ get_or-map rounded sizes i 0 in
    let base_too : IsMultiple r base = mult_trans r 1048576 base (ladder x 1048576 (at_most 12 256 x)) whole in
    let front : IsMultiple r (sum_where (λ s. nat_le r s) (take i rs)) = rw (take-map rounded i sizes) (sums x (λ s. nat_le r s) (leb-true r) (take i sizes)) in
    let back : IsMultiple r (sum_where (λ s. nat_lt r s) (drop i rs)) = rw (drop-map rounded i sizes) (sums x (λ s. nat_lt r s) (above_size r) (drop i sizes)) in
    subst (λ (q : ℕ). IsMultiple q (base + (sum_where (λ s. nat_le q s) (take i rs) + sum_where (λ s. nat_lt q s) (drop i rs)))) (sym is)
    (mult_add r _ _ base_too (mult_add r _ _ front back))

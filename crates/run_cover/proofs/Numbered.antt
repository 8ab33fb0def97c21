-- Places and their numbers.
use Rattle.std.proofs.Common.{◌≡◌, inl, inr, ◌+◌, ◌-◌, ◌*◌, ◌/◌, ◌%◌, ◌^◌, ◌<◌, ◌≤◌, ℕ, Bool, true, false, cond, eqb, ltb, Option, Some, None, refl, sym, ap, ◌∙◌, arith}
use Rattle.std.specs.Prelude.{is_some}
use Rattle.std.proofs.lemmas.Bool.{ltb-true, leb-true, eqb-true, lt-ltb, le-ltb, le-leb, eq-eqb, ne_eqb, and_parts, and_from, cond-true, cond-false, cases_lt, false_from_ne_true}
use Rattle.std.proofs.lemmas.Bool.Decides.{nat_tests}
use Rattle.run_cover.specs.Places.{is_in_flash, is_in_ram, number_of, place_of, is_place, address_of}
use Rattle.thumb_asm.proofs.Labels.{some_of}

pub low_address : (k : ℕ) → k < 524288 → address_of k ≡ 0x08000000 + 2 * k
unfolding address_of
low_address k lt = cond-true (ltb k 524288) (0x08000000 + 2 * k) (0x20000000 + 2 * (k - 524288)) (lt-ltb k 524288 lt)

pub high_address : (k : ℕ) → 524288 ≤ k → address_of k ≡ 0x20000000 + 2 * (k - 524288)
unfolding address_of
high_address k le = cond-false (ltb k 524288) (0x08000000 + 2 * k) (0x20000000 + 2 * (k - 524288)) (le-ltb k 524288 le)

-- a place with its number
pub record IsNumbered (a k : ℕ) : Type 0 where
  pub few : k < 655360
  pub back : address_of k ≡ a
  pub below : a + 7 < 2 ^ 32
  pub above : 4 ≤ a

some_same : (x k : ℕ) → Some x ≡ Some k → x ≡ k
some_same x k e = cc

by_ram : (a k : ℕ) → a % 2 ≡ 0 → (b : Bool) → (b ≡ true → (0x20000000 ≤ a) × (a < 0x20040000)) → cond b (Some (524288 + (a - 0x20000000) / 2)) None ≡ Some k → IsNumbered a k
by_ram a k even true h e =
    let is = some_same _ _ e in
    let inside = h refl in
    let le : 524288 ≤ k = omega (arith, is) in
    let back : 0x20000000 + 2 * (k - 524288) ≡ a = omega (arith, is, even, inside.0, inside.1) in
    record { few = omega (arith, is, inside.1); back = high_address k le ∙ back; below = omega (arith, inside.1); above = omega (arith, inside.0) }
by_ram a k even false h e = cc

by_flash : (a k : ℕ) → a % 2 ≡ 0 → (b : Bool) → (b ≡ true → (0x08000000 ≤ a) × (a < 0x08100000)) → (o : Option ℕ) → (o ≡ Some k → IsNumbered a k) → cond b (Some ((a - 0x08000000) / 2)) o ≡ Some k → IsNumbered a k
by_flash a k even true h o other e =
    let is = some_same _ _ e in
    let inside = h refl in
    let lt : k < 524288 = omega (arith, is, inside.1) in
    let back : 0x08000000 + 2 * k ≡ a = omega (arith, is, even, inside.0, inside.1) in
    record { few = omega (arith, lt); back = low_address k lt ∙ back; below = omega (arith, inside.1); above = omega (arith, inside.0) }
by_flash a k even false h o other e = other e

by_even : (a k : ℕ) → (b : Bool) → (b ≡ true → a % 2 ≡ 0) → cond b (number_of a) None ≡ Some k → IsNumbered a k
by_even a k true h e =
    let even = h refl in
    by_flash a k even (is_in_flash a) (λ t. let p = and_parts _ _ t in (leb-true _ _ p.0, ltb-true _ _ p.1))
    _ (by_ram a k even (is_in_ram a) (λ t. let p = and_parts _ _ t in (leb-true _ _ p.0, ltb-true _ _ p.1))) e
by_even a k false h e = cc

pub numbered : (a k : ℕ) → place_of a ≡ Some k → IsNumbered a k
unfolding place_of
numbered a k e = by_even a k (eqb (a % 2) 0) (λ t. eqb-true _ _ t) e

-- each number is that of one place
pub same_place : (a b k : ℕ) → place_of a ≡ Some k → place_of b ≡ Some k → a ≡ b
same_place a b k p q = sym (numbered a k p).back ∙ (numbered b k q).back

pub at_even : (a : ℕ) → a % 2 ≡ 0 → place_of a ≡ number_of a
unfolding place_of
at_even a e = cond-true (eqb (a % 2) 0) (number_of a) None (eq-eqb _ _ e)

pub at_odd : (a : ℕ) → (a % 2 ≡ 0 → ⊥) → place_of a ≡ None
unfolding place_of
at_odd a odd = cond-false (eqb (a % 2) 0) (number_of a) None (ne_eqb _ _ odd)

pub low_number : (a : ℕ) → 0x08000000 ≤ a → a < 0x08100000 → number_of a ≡ Some ((a - 0x08000000) / 2)
low_number a le lt = cond-true (is_in_flash a) _ _ (and_from _ _ (le-leb _ _ le) (lt-ltb _ _ lt))

pub high_number : (a : ℕ) → 0x20000000 ≤ a → a < 0x20040000 → number_of a ≡ Some (524288 + (a - 0x20000000) / 2)
high_number a le lt =
    let other : is_in_flash a ≡ false = grind (arith, nat_tests) in
    cond-false (is_in_flash a) _ _ other ∙ cond-true (is_in_ram a) _ _ (and_from _ _ (le-leb _ _ le) (lt-ltb _ _ lt))

pub no_number : (a : ℕ) → (0x08000000 ≤ a → a < 0x08100000 → ⊥) → (0x20000000 ≤ a → a < 0x20040000 → ⊥) → number_of a ≡ None
no_number a flash ram =
    let p = false_from_ne_true (is_in_flash a) (λ t. let q = and_parts _ _ t in flash (leb-true _ _ q.0) (ltb-true _ _ q.1)) in
    let r = false_from_ne_true (is_in_ram a) (λ t. let q = and_parts _ _ t in ram (leb-true _ _ q.0) (ltb-true _ _ q.1)) in
    cond-false (is_in_flash a) _ _ p ∙ cond-false (is_in_ram a) _ _ r

-- and each has one
pub placed : (k : ℕ) → k < 655360 → place_of (address_of k) ≡ Some k
placed k lt = elim (cases_lt k 524288) [ inl low ↦ by_low low | inr high ↦ by_high high ]
  where
    by_low : k < 524288 → place_of (address_of k) ≡ Some k
    by_low low =
        let a : ℕ = 0x08000000 + 2 * k in
        let even : a % 2 ≡ 0 = omega arith in
        let is : (a - 0x08000000) / 2 ≡ k = omega arith in
        ap place_of (low_address k low) ∙ at_even a even ∙ low_number a (omega arith) (omega arith) ∙ ap (λ (n : ℕ). Some n) is

    by_high : 524288 ≤ k → place_of (address_of k) ≡ Some k
    by_high high =
        let a : ℕ = 0x20000000 + 2 * (k - 524288) in
        let even : a % 2 ≡ 0 = omega arith in
        let is : 524288 + (a - 0x20000000) / 2 ≡ k = omega arith in
        ap place_of (high_address k high) ∙ at_even a even ∙ high_number a (omega arith) (omega arith) ∙ ap (λ (n : ℕ). Some n) is

pub is_numbered : (a : ℕ) → is_place a ≡ true → (k : ℕ) × (place_of a ≡ Some k)
is_numbered a e = some_of (place_of a) e

pub place_is : (a k : ℕ) → place_of a ≡ Some k → is_place a ≡ true
place_is a k e = ap (λ (o : Option ℕ). is_some o) e

pub address_is_place : (k : ℕ) → k < 655360 → is_place (address_of k) ≡ true
address_is_place k lt = place_is (address_of k) k (placed k lt)

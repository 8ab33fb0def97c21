-- The digits of a number are read back, and have no space in them.
use Rattle.std.proofs.Common.{◌≡◌, ◌≢◌, ℕ, ◌+◌, ◌-◌, ◌*◌, ◌^◌, ◌<◌, ◌≤◌, inl, inr, true, false, cond, leb, ltb, List, length, get_or, Some, None, refl, sym, subst, ap, ◌∙◌, arith}
use Rattle.std.specs.Prelude.{decimal}
use Rattle.std.specs.List.{list_all}
use Rattle.std.specs.Int.{IsInRange}
use Rattle.std.proofs.lemmas.Str.Parse.{IsNumeralModel, IsDigitsTest, WeighsDigits, numerals_by_weight}
use Rattle.std.proofs.lemmas.Fmt.{digits_decimal, digits_value-decimal, decimal_nonempty, first_decimal, decimal_digit}
use Rattle.std.proofs.lemmas.Bool.{and_parts, and_from}
use Rattle.std.proofs.lemmas.Bool.Decides.{nat_tests, eqb_tells}
use Rattle.text_lines.specs.Text.{is_digit, digit, value_in, number_of}
use Rattle.trace_audit.specs.Texts.{has_leading_zero, plain_number}

digit_range : (c : ℕ) → is_digit c ≡ true → IsInRange 48 57 c
digit_range c h = grind (arith, nat_tests)

range_digit : (c : ℕ) → IsInRange 48 57 c → is_digit c ≡ true
range_digit c h = grind (arith, nat_tests)

tests : IsDigitsTest (λ ds. list_all is_digit ds ≡ true)
tests = record {
  empty = refl;
  parts = λ c cs h. let p = and_parts (is_digit c) (list_all is_digit cs) h in (digit_range c p.0, p.1);
  more = λ c cs r h. and_from (is_digit c) (list_all is_digit cs) (range_digit c r) h;
}

digit_of : (c : ℕ) → IsInRange 48 57 c → digit c ≡ c - 48
digit_of c h = grind (arith, nat_tests)

weighs : WeighsDigits (value_in 10)
unfolding value_in
weighs = record { empty = refl; more = λ c cs r. ap (λ d. d * 10 ^ length cs + value_in 10 cs) (digit_of c r) }

pub own : IsNumeralModel (λ ds. list_all is_digit ds ≡ true) (value_in 10)
own = numerals_by_weight _ tests (value_in 10) weighs

pub all_digits : (n : ℕ) → n < 2 ^ 64 → list_all is_digit (decimal n) ≡ true
all_digits n h = digits_decimal own n h

value_back : (n : ℕ) → n < 2 ^ 64 → value_in 10 (decimal n) ≡ n
value_back n h = digits_value-decimal own n h

-- no leading zero
no_zero : (n : ℕ) → n < 2 ^ 64 → has_leading_zero (decimal n) ≡ false
no_zero n h = elim (eqb_tells n 0) [
  | inl z ↦ subst (λ m. has_leading_zero (decimal m) ≡ false) (sym z.1) (ap has_leading_zero (decimal_digit 0 (omega arith)))
  | inr nz ↦ let first = first_decimal n (let q : n ≢ 0 = nz.1 in omega arith) h in not_48 (decimal n) first
]
  where
    not_48 : (ds : List ℕ) → 48 < get_or ds 0 0 → has_leading_zero ds ≡ false
    not_48 ds lt = grind (arith, nat_tests)

read_number : (piece : List ℕ) (n max : ℕ) → list_all is_digit piece ≡ true → 0 < length piece → value_in 10 piece ≡ n → n ≤ max → number_of piece max ≡ Some n
read_number piece n max all some value fits = rw (positive, all, low) (ap Some value)
  where
    positive : ltb 0 (length piece) ≡ true
    positive = grind (arith, nat_tests)

    low : leb (value_in 10 piece) max ≡ true
    low = subst (λ m. leb m max ≡ true) (sym value) (grind (arith, nat_tests))

pub number_back : (n max : ℕ) → n < 2 ^ 64 → n ≤ max → plain_number max (decimal n) ≡ Some n
unfolding plain_number
number_back n max h fits = ap (λ b. cond b None (number_of (decimal n) max)) (no_zero n h) ∙ read_number (decimal n) n max (all_digits n h) (decimal_nonempty n h) (value_back n h) fits

-- A number that is written is read as that number, and is a word of digits.
use Rattle.std.proofs.Common.{◌≡◌, ℕ, ◌+◌, ◌-◌, ◌*◌, ◌^◌, ◌<◌, ◌≤◌, true, false, leb, ltb, List, [], ◌∷◌, ◌++◌, length, suc, zero, Some, refl, sym, subst, ap, ◌∙◌, arith}
use Rattle.std.specs.Prelude.{Bool, decimal, not, ◌==◌, ◌&&◌}
use Rattle.std.specs.List.{list_all}
use Rattle.std.specs.Int.{IsInRange}
use Rattle.std.proofs.lemmas.Str.Parse.{IsNumeralModel, IsDigitsTest, WeighsDigits, numerals_by_weight}
use Rattle.std.proofs.lemmas.Fmt.{digits_decimal, digits_value-decimal, decimal_nonempty, length-decimal-le}
use Rattle.std.proofs.lemmas.List.Folds.{list_all-append}
use Rattle.std.proofs.lemmas.Bool.{and_parts, and_from}
use Rattle.std.proofs.lemmas.Bool.Decides.{nat_tests}
use Rattle.text_lines.specs.Text.{is_digit, digit, value_in, number_of}
use Rattle.run_script.specs.Words.{HasNoBlank, ends_word, is_allowed, is_blank, words}
use Rattle.run_script.specs.Statements.{number_within}
use Rattle.run_script.proofs.Wording.{word_and}

digit_range : (c : ℕ) → is_digit c ≡ true → IsInRange 48 57 c
digit_range c h = grind (arith, nat_tests)

range_digit : (c : ℕ) → IsInRange 48 57 c → is_digit c ≡ true
range_digit c h = grind (arith, nat_tests)

tests : IsDigitsTest (λ ds. list_all is_digit ds ≡ true)
tests = record {
  empty = refl;
  parts = λ c cs h. let p = and_parts (is_digit c) (list_all is_digit cs) h in (digit_range c p.0, p.1);
  more = λ c cs r h. and_from (is_digit c) (list_all is_digit cs) (range_digit c r) h;
}

digit_of : (c : ℕ) → IsInRange 48 57 c → digit c ≡ c - 48
digit_of c h = grind (arith, nat_tests)

weighs : WeighsDigits (value_in 10)
unfolding value_in
weighs = record { empty = refl; more = λ c cs r. ap (λ d. d * 10 ^ length cs + value_in 10 cs) (digit_of c r) }

own : IsNumeralModel (λ ds. list_all is_digit ds ≡ true) (value_in 10)
own = numerals_by_weight _ tests (value_in 10) weighs

-- ---- the word

all_digits : (n : ℕ) → n < 2 ^ 64 → list_all is_digit (decimal n) ≡ true
all_digits n h = digits_decimal own n h

not_blank : (c : ℕ) → is_digit c ≡ true → is_blank c ≡ false
not_blank c h = grind (arith, nat_tests)

-- a byte of a line, and no quote
abbrev pub is_plain : ℕ → Bool
is_plain c = is_allowed c && not (c == 34)

plain : (c : ℕ) → is_digit c ≡ true → is_plain c ≡ true
plain c h = and_from (is_allowed c) (not (c == 34)) (grind (arith, nat_tests)) (ap not (other_than_quote c h))
  where
    other_than_quote : (c : ℕ) → is_digit c ≡ true → (c == 34) ≡ false
    other_than_quote c h = grind (arith, nat_tests)

digits_no_blank : (ds : List ℕ) → list_all is_digit ds ≡ true → HasNoBlank ds
digits_no_blank [] h k lt = absurd (omega arith)
digits_no_blank (c ∷ cs) h zero lt = not_blank c (and_parts (is_digit c) (list_all is_digit cs) h).0
digits_no_blank (c ∷ cs) h (suc k) lt = digits_no_blank cs (and_parts (is_digit c) (list_all is_digit cs) h).1 k (omega arith)

digits_plain : (ds : List ℕ) → list_all is_digit ds ≡ true → list_all is_plain ds ≡ true
digits_plain [] h = refl
digits_plain (c ∷ cs) h =
    let p = and_parts (is_digit c) (list_all is_digit cs) h in
    and_from (is_plain c) (list_all is_plain cs) (plain c p.0) (digits_plain cs p.1)

-- the word in front of what stands behind it
pub decimal_then : (n : ℕ) (behind : List ℕ) → n < 2 ^ 64 → ends_word behind ≡ true → words (decimal n ++ behind) ≡ decimal n ∷ words behind
decimal_then n behind h e = word_and (decimal n) behind (decimal_nonempty n h) (digits_no_blank (decimal n) (all_digits n h)) e

pub plain_then : (n : ℕ) (behind : List ℕ) → n < 2 ^ 64 → list_all is_plain behind ≡ true → list_all is_plain (decimal n ++ behind) ≡ true
plain_then n behind h e = list_all-append is_plain (decimal n) behind ∙ and_from (list_all is_plain (decimal n)) (list_all is_plain behind) (digits_plain (decimal n) (all_digits n h)) e

-- ---- the value

read_number : (piece : List ℕ) (n max : ℕ) → list_all is_digit piece ≡ true → 0 < length piece → value_in 10 piece ≡ n → n ≤ max → number_of piece max ≡ Some n
read_number piece n max all some value fits = rw (positive, all, low) (ap Some value)
  where
    positive : ltb 0 (length piece) ≡ true
    positive = grind (arith, nat_tests)

    low : leb (value_in 10 piece) max ≡ true
    low = subst (λ m. leb m max ≡ true) (sym value) (grind (arith, nat_tests))

is_within : (low n : ℕ) → low ≤ n → leb low n ≡ true
is_within low n h = grind (arith, nat_tests)

-- a number within its bounds
pub number_back : (low top n : ℕ) → low ≤ n → n ≤ top → top < 10 ^ 10 → number_within low top (decimal n) ≡ Some n
number_back low top n from to few =
    let h : n < 2 ^ 64 = omega arith in
    let short : leb (length (decimal n)) 10 ≡ true = is_within (length (decimal n)) 10 (length-decimal-le 10 n (omega arith) (omega arith) h) in
    let is : number_of (decimal n) top ≡ Some n = read_number (decimal n) n top (all_digits n h) (decimal_nonempty n h) (digits_value-decimal own n h) to in
    let from_low : leb low n ≡ true = is_within low n from in
    rw (short, is, from_low) refl

-- The digits of a number of three digits or more are those of its hundreds, and two more.
use Rattle.std.proofs.Common.{◌≡◌, ◌+◌, ◌-◌, ◌/◌, ◌%◌, ◌^◌, ◌<◌, ◌≤◌, ℕ, List, ◌∷◌, ◌++◌, length, take, drop, get_or, Some, refl, sym, ap, subst, ◌∙◌, arith, append_assoc, length-append}
use Rattle.std.proofs.lemmas.List.{take_at, take-append-drop, get_or-append-add}
use Rattle.std.proofs.lemmas.Option.{same_Some, none-some}
use Rattle.std.proofs.Math.Seq.{take-length}
use Rattle.std.specs.Prelude.{decimal}
use Rattle.std.specs.String.Boundary.{IsSplitPoint}
use Rattle.itoa.proofs.Decimal.{pair, decimal_pair, length_pair}
use Rattle.trace_text.specs.Digits.{HasDigits}
use Rattle.trace_text.proofs.Begins.{cut_end}

-- a text may be cut before an ASCII byte
cut_before : (xs rest : List ℕ) (y n : ℕ) → length xs ≡ n → y < 128 → IsSplitPoint (xs ++ y ∷ rest) n
cut_before xs rest y n is small =
    let same : length xs ≡ length xs + 0 = omega arith in
    let here : get_or (xs ++ y ∷ rest) (length xs) 0 ≡ y = ap (λ (k : ℕ). get_or (xs ++ y ∷ rest) k 0) same ∙ get_or-append-add xs (y ∷ rest) 0 0 in
    let long : length (xs ++ y ∷ rest) ≡ length xs + length (y ∷ rest) = length-append xs (y ∷ rest) in
    rw (sym is) (omega (arith, long), λ _ _ big. absurd (omega (arith, here, big)))

module _ (number n : ℕ) (bytes : List ℕ) (from : 100 ≤ number) (fits : number < 2 ^ 64) (begun : HasDigits number bytes (Some n)) where
  abbrev hundreds : List ℕ
  hundreds = decimal (number / 100)

  abbrev rest : List ℕ
  rest = pair (number % 100) ++ drop n bytes

  pub two_less : length hundreds ≡ n - 2
  two_less = let count = begun.count n refl in let more = length_pair number from fits in omega (arith, count, more)

  whole : bytes ≡ hundreds ++ rest
  whole =
      sym (take-append-drop n bytes)
      ∙ ap (λ (xs : List ℕ). xs ++ drop n bytes) (begun.digits n refl ∙ decimal_pair number from fits)
      ∙ append_assoc hundreds (pair (number % 100)) (drop n bytes)

  pub at_least_two : 2 ≤ n
  at_least_two = let count = begun.count n refl in let more = length_pair number from fits in omega (arith, count, more)

  pub cut_two : IsSplitPoint bytes (n - 2)
  cut_two =
      let P : List ℕ → Type 0 = λ xs. IsSplitPoint xs (n - 2) in
      subst P (sym whole) (cut_before hundreds ((48 + number % 100 % 10) ∷ drop n bytes) (48 + number % 100 / 10) (n - 2) two_less (omega arith))

  pub front_two : take (n - 2) bytes ≡ hundreds
  front_two = ap (take (n - 2)) whole ∙ take_at hundreds rest (n - 2) two_less

-- for another number with the same hundreds, its last two digits replace the old ones
pub other_two : (old number n : ℕ) (bytes : List ℕ) → 100 ≤ number → number < 2 ^ 32 → old < 2 ^ 32 → number / 100 ≡ old / 100 → HasDigits old bytes (Some n) →
    take (n - 2) bytes ++ pair (number % 100) ≡ decimal number
other_two old number n bytes from fits fit same begun =
    ap (λ (xs : List ℕ). xs ++ pair (number % 100)) (front_two old n bytes (omega arith) (omega arith) begun ∙ ap decimal (sym same))
    ∙ sym (decimal_pair number from (omega arith))

pub as_long : (old number n : ℕ) (bytes : List ℕ) → 100 ≤ number → number < 2 ^ 32 → old < 2 ^ 32 → number / 100 ≡ old / 100 → HasDigits old bytes (Some n) → n ≡ length (decimal number)
as_long old number n bytes from fits fit same begun =
    let count = begun.count n refl in
    let long = length_pair old (omega arith) (omega arith) in
    let long' = length_pair number from (omega arith) in
    let hundreds : length (decimal (number / 100)) ≡ length (decimal (old / 100)) = ap (λ (k : ℕ). length (decimal k)) same in
    omega (arith, count, long, long', hundreds)

pub begun_at : (number n : ℕ) (bytes : List ℕ) → bytes ≡ decimal number → n ≡ length (decimal number) → n ≤ 20 → HasDigits number bytes (Some n)
begun_at number n bytes is long few =
    let same : (m : ℕ) → Some n ≡ Some m → m ≡ length (decimal number) = λ m e. sym (same_Some n m e) ∙ long in
    record {
      empty = λ none. absurd (none-some n (sym none));
      digits = λ m e. ap (take m) is ∙ ap (λ (k : ℕ). take k (decimal number)) (same m e) ∙ take-length (decimal number);
      cut = λ m e. rw is (cut_end (decimal number) m (same m e));
      count = same;
      few = λ m e. let k = same_Some n m e in omega (arith, k);
    }

-- The digits of four numbers, lane by lane.
use Rattle.std.proofs.Common.{◌≡◌, ℕ, zero, suc, ◌+◌, ◌-◌, ◌*◌, ◌/◌, ◌%◌, ◌^◌, ◌<◌, ◌≤◌, Bool, true, cond, ◌&&◌, T, eqb, List, [], ◌∷◌, ◌++◌, length, map, take, drop, get_or, set, replicate, bit_and, refl, sym, ap, subst, ◌∙◌, inl, inr, arith, w8, w32, Fits, eq-zero-or-pos, eqb→eq}
use Rattle.std.proofs.lemmas.Bool.{cases_lt}
use Rattle.std.proofs.lemmas.Bool.Decides.{nat_tests}
use Rattle.std.proofs.lemmas.List.{flat_map_more, take_more, drop_all}
use Rattle.std.proofs.lemmas.List.Edits.{get_or-between}
use Rattle.std.proofs.Math.Seq.{drop-cons}
use Rattle.std.proofs.lemmas.Nat.{and_mask}
use Rattle.std.proofs.lemmas.Simd.{get_or_narrower, below_from_Fits, swz_l, SwzOk, SwzOk-from_below}
use Rattle.std.proofs.lemmas.Str.{IsAscii-append}
use Rattle.std.proofs.lemmas.Str.Ascii.{IsAscii-cons, IsAscii-nil}
use Rattle.std.specs.List.{flat_map, between}
use Rattle.std.specs.Str.{IsAscii}
use lib.Ieee.Fits.{and_l, and_r}
use lib.Lanes.{Each1, number_l, digits_l, pick_l, zip2}
use borrow.Rule.Slice.PartMut.{put_mid}
use mir.Val.{zeroes}
use Rattle.thumb_insn.specs.Text.{hex_digit}
use Rattle.trace_text.specs.Text.{hex, half_hex, hex_values, spaced_hex}
use Rattle.trace_text.specs.declared.words.TheConstants.{DIGITS}

-- ## bytes and their halves

abbrev bytes : ℕ → List ℕ
bytes n = n / 256 ^ 0 % 256 ∷ n / 256 ^ 1 % 256 ∷ n / 256 ^ 2 % 256 ∷ n / 256 ^ 3 % 256 ∷ []

-- the bytes of four numbers in one vector
bytes_of_four : (a b c d : ℕ) → Each1 (Fits w32) (a ∷ b ∷ c ∷ d ∷ []) → digits_l 256 16 (number_l (2 ^ 32) (a ∷ b ∷ c ∷ d ∷ [])) ≡ flat_map bytes (a ∷ b ∷ c ∷ d ∷ [])
bytes_of_four a b c d fits =
    let xs : List ℕ = a ∷ b ∷ c ∷ d ∷ [] in
    let small = below_from_Fits w32 xs fits in
    let at : (j i : ℕ) → i < 4 → 4 * j + i < 16 → get_or (digits_l 256 16 (number_l (2 ^ 32) xs)) (4 * j + i) 0 ≡ get_or xs j 0 / 256 ^ i % 256 = λ j i h k. get_or_narrower (2 ^ 32) 4 256 16 xs j i refl small h k in
    λ r. at 0 0 (omega arith) (omega arith) r ∷ at 0 1 (omega arith) (omega arith) r ∷ at 0 2 (omega arith) (omega arith) r ∷ at 0 3 (omega arith) (omega arith) r
    ∷ at 1 0 (omega arith) (omega arith) r ∷ at 1 1 (omega arith) (omega arith) r ∷ at 1 2 (omega arith) (omega arith) r ∷ at 1 3 (omega arith) (omega arith) r
    ∷ at 2 0 (omega arith) (omega arith) r ∷ at 2 1 (omega arith) (omega arith) r ∷ at 2 2 (omega arith) (omega arith) r ∷ at 2 3 (omega arith) (omega arith) r
    ∷ at 3 0 (omega arith) (omega arith) r ∷ at 3 1 (omega arith) (omega arith) r ∷ at 3 2 (omega arith) (omega arith) r ∷ at 3 3 (omega arith) (omega arith) r ∷ []

-- the halves of a number's bytes, the highest first
abbrev halves : ℕ → List ℕ
halves n = n / 256 ^ 3 % 256 / 16 ∷ bit_and (n / 256 ^ 3 % 256) 15 ∷ n / 256 ^ 2 % 256 / 16 ∷ bit_and (n / 256 ^ 2 % 256) 15 ∷ n / 256 ^ 1 % 256 / 16 ∷ bit_and (n / 256 ^ 1 % 256) 15 ∷ n / 256 ^ 0 % 256 / 16 ∷ bit_and (n / 256 ^ 0 % 256) 15 ∷ []

halves_are : (n : ℕ) → halves n ≡ hex_values n
halves_are n =
    let low : (b : ℕ) → bit_and b 15 ≡ b % 16 = λ b. and_mask b 4 in
    let e7 : n / 256 ^ 3 % 256 / 16 ≡ n / 16 ^ 7 % 16 = omega arith in
    let e6 : n / 256 ^ 3 % 256 % 16 ≡ n / 16 ^ 6 % 16 = omega arith in
    let e5 : n / 256 ^ 2 % 256 / 16 ≡ n / 16 ^ 5 % 16 = omega arith in
    let e4 : n / 256 ^ 2 % 256 % 16 ≡ n / 16 ^ 4 % 16 = omega arith in
    let e3 : n / 256 ^ 1 % 256 / 16 ≡ n / 16 ^ 3 % 16 = omega arith in
    let e2 : n / 256 ^ 1 % 256 % 16 ≡ n / 16 ^ 2 % 16 = omega arith in
    let e1 : n / 256 ^ 0 % 256 / 16 ≡ n / 16 % 16 = omega arith in
    let e0 : n / 256 ^ 0 % 256 % 16 ≡ n % 16 = omega arith in
    let l6 = low (n / 256 ^ 3 % 256) ∙ e6 in
    let l4 = low (n / 256 ^ 2 % 256) ∙ e4 in
    let l2 = low (n / 256 ^ 1 % 256) ∙ e2 in
    let l0 = low (n / 256 ^ 0 % 256) ∙ e0 in
    λ r. e7 r ∷ l6 r ∷ e5 r ∷ l4 r ∷ e3 r ∷ l2 r ∷ e1 r ∷ l0 r ∷ []

halves_are_values : (xs : List ℕ) → flat_map halves xs ≡ flat_map hex_values xs
halves_are_values [] = refl
halves_are_values (x ∷ xs) = λ r. halves_are x r ++ halves_are_values xs r

-- the halves of sixteen bytes, those of each four from the last one on
abbrev turned : List ℕ → List ℕ
turned bs = pick_l 0 (zip2 (λ (a b : ℕ). a / 2 ^ b) bs (replicate 16 4) ++ zip2 bit_and bs (replicate 16 15))
    (3 ∷ 19 ∷ 2 ∷ 18 ∷ 1 ∷ 17 ∷ 0 ∷ 16 ∷ 7 ∷ 23 ∷ 6 ∷ 22 ∷ 5 ∷ 21 ∷ 4 ∷ 20 ∷ 11 ∷ 27 ∷ 10 ∷ 26 ∷ 9 ∷ 25 ∷ 8 ∷ 24 ∷ 15 ∷ 31 ∷ 14 ∷ 30 ∷ 13 ∷ 29 ∷ 12 ∷ 28 ∷ [])

pub turned_are_values : (xs : List ℕ) → length xs ≡ 4 → Each1 (Fits w32) xs → turned (digits_l 256 16 (number_l (2 ^ 32) xs)) ≡ flat_map hex_values xs
turned_are_values [] long fits = absurd (omega arith)
turned_are_values (a ∷ []) long fits = absurd (omega arith)
turned_are_values (a ∷ b ∷ []) long fits = absurd (omega arith)
turned_are_values (a ∷ b ∷ c ∷ []) long fits = absurd (omega arith)
turned_are_values (a ∷ b ∷ c ∷ d ∷ e ∷ xs) long fits = absurd (omega arith)
turned_are_values (a ∷ b ∷ c ∷ d ∷ []) long fits = ap turned (bytes_of_four a b c d fits) ∙ halves_are_values (a ∷ b ∷ c ∷ d ∷ [])

-- ## looking up

-- each value is below 16
values_below : (xs : List ℕ) → Each1 (λ j. j < 16) (flat_map hex_values xs)
values_below [] = tt
values_below (x ∷ xs) = (omega arith, (omega arith, (omega arith, (omega arith, (omega arith, (omega arith, (omega arith, (omega arith, values_below xs))))))))

-- what a look-up of p at place q of the table gives
abbrev found : ℕ → ℕ → ℕ
found p q = cond (zeroes 16 w8 p) 0 (get_or DIGITS q 0)

-- in each half of the table
abbrev low : ℕ → Bool
low p = eqb (found p p) (hex_digit p)

abbrev high : ℕ → Bool
high p = eqb (found p (16 + p)) (hex_digit p)

abbrev are_digits : ℕ → Bool
are_digits zero = true
are_digits (suc p) = (low p && high p) && are_digits p

below : (n p : ℕ) → T (are_digits n) → p < n → (found p p ≡ hex_digit p) × (found p (16 + p) ≡ hex_digit p)
below zero p t h = absurd (omega arith)
below (suc n) p t h =
    elim (eq-zero-or-pos (n - p)) [
      | inl z ↦ let e : p ≡ n = omega arith in let a = and_l (low n && high n) (are_digits n) t in rw e (eqb→eq (found n n) (hex_digit n) (and_l (low n) (high n) a), eqb→eq (found n (16 + n)) (hex_digit n) (and_r (low n) (high n) a))
      | inr g ↦ below n p (and_r (low n && high n) (are_digits n) t) (omega arith)
    ]

-- in either half
at_lane : (i j : ℕ) → i < 32 → j < 16 → found j (16 * (i / 16) + j) ≡ hex_digit j
at_lane i j h small =
    elim (cases_lt i 16) [
      | inl l ↦ let e : 16 * (i / 16) + j ≡ j = omega arith in rw e (below 16 j tt small).0
      | inr g ↦ let e : 16 * (i / 16) + j ≡ 16 + j = omega arith in rw e (below 16 j tt small).1
    ]

looked_up : (i : ℕ) (js : List ℕ) → i + length js ≤ 32 → Each1 (λ j. j < 16) js → swz_l w8 16 DIGITS i js ≡ map hex_digit js
looked_up i [] few small = refl
looked_up i (j ∷ js) few small = λ r. at_lane i j (omega arith) small.0 r ∷ looked_up (suc i) js (omega arith) small.1 r

length-values : (xs : List ℕ) → length (flat_map hex_values xs) ≡ 8 * length xs
length-values [] = refl
length-values (x ∷ xs) = let e = length-values xs in omega arith

digits_of_values : (xs : List ℕ) → map hex_digit (flat_map hex_values xs) ≡ flat_map hex xs
unfolding hex
digits_of_values [] = refl
digits_of_values (x ∷ xs) = λ r. hex x ++ digits_of_values xs r

pub four_looked_up : (xs : List ℕ) → length xs ≡ 4 → swz_l w8 16 DIGITS 0 (flat_map hex_values xs) ≡ flat_map hex xs
four_looked_up xs long = looked_up 0 (flat_map hex_values xs) (omega (arith, length-values xs)) (values_below xs) ∙ digits_of_values xs

pub four_in_table : (xs : List ℕ) → length xs ≡ 4 → SwzOk w8 16 32 0 (flat_map hex_values xs)
four_in_table xs long = SwzOk-from_below w8 16 2 32 0 (flat_map hex_values xs) refl (omega (arith, length-values xs)) (values_below xs)

-- ## each digit is ASCII

digit_ascii : (d : ℕ) → d < 16 → hex_digit d < 128
digit_ascii d small = grind (arith, nat_tests)

ascii_of : (ds : List ℕ) → Each1 (λ d. d < 16) ds → IsAscii (map hex_digit ds)
ascii_of [] small = IsAscii-nil
ascii_of (d ∷ ds) small = IsAscii-cons (hex_digit d) (map hex_digit ds) (digit_ascii d small.0) (ascii_of ds small.1)

pub hex_ascii : (n : ℕ) → IsAscii (hex n)
unfolding hex
hex_ascii n = ascii_of (hex_values n) (values_below (n ∷ []))

pub half_ascii : (n : ℕ) → IsAscii (half_hex n)
unfolding half_hex
half_ascii n = ascii_of (n / 16 ^ 3 % 16 ∷ n / 16 ^ 2 % 16 ∷ n / 16 % 16 ∷ n % 16 ∷ []) (omega arith, (omega arith, (omega arith, (omega arith, tt))))

pub spaced_ascii : (xs : List ℕ) → IsAscii (flat_map spaced_hex xs)
spaced_ascii [] = IsAscii-nil
spaced_ascii (x ∷ xs) = IsAscii-cons 32 (hex x ++ flat_map spaced_hex xs) (omega arith) (IsAscii-append (hex x) (flat_map spaced_hex xs) (hex_ascii x) (spaced_ascii xs))

-- ## a list is determined by the items at its indices

abbrev pub at_places : ℕ → ℕ → List ℕ → List ℕ
at_places zero i xs = []
at_places (suc n) i xs = get_or xs i 0 ∷ at_places n (suc i) xs

places_are : (xs : List ℕ) (n i : ℕ) → i + n ≡ length xs → at_places n i xs ≡ drop i xs
places_are xs zero i all = sym (drop_all i xs (omega arith))
places_are xs (suc n) i all = ap (λ (ys : List ℕ). get_or xs i 0 ∷ ys) (places_are xs n (suc i) (omega arith)) ∙ sym (drop-cons xs i 0 (omega arith))

-- ## four texts, each after a space

-- three pieces at their places, and a fourth
abbrev three : List ℕ → List ℕ → List ℕ → List ℕ
three a b c = put_mid 19 8 (put_mid 10 8 (put_mid 1 8 (replicate 36 32) a) b) c

abbrev pub placed : List ℕ → List ℕ → List ℕ → List ℕ → List ℕ
placed a b c d = put_mid 28 8 (three a b c) d

abbrev three_of : List ℕ → List ℕ
three_of t = three (between 0 8 t) (between 8 16 t) (between 16 24 t)

-- the same for the digits of four numbers
pub three_long : (xs : List ℕ) → length xs ≡ 4 → 36 ≤ length (three_of (flat_map hex (take 4 xs)))
unfolding hex
three_long xs long =
    let P : List ℕ → Type 0 = λ ys. 36 ≤ length (three_of (flat_map hex (take 4 ys))) in
    subst P (places_are xs 4 0 (sym long)) (omega arith)

abbrev placed_of : List ℕ → List ℕ
placed_of t = placed (between 0 8 t) (between 8 16 t) (between 16 24 t) (between 24 32 t)

pub placed_are_spaced : (xs : List ℕ) → length xs ≡ 4 → placed_of (flat_map hex (take 4 xs)) ≡ flat_map spaced_hex xs
unfolding hex
placed_are_spaced xs long =
    let P : List ℕ → Type 0 = λ ys. placed_of (flat_map hex (take 4 ys)) ≡ flat_map spaced_hex ys in
    subst P (places_are xs 4 0 (sym long)) refl

-- ## two texts of four, and the LF

abbrev two : List ℕ → List ℕ → List ℕ
two a b = put_mid 36 36 (put_mid 0 36 (replicate 72 32) a) b

pub two_are_spaced : (xs : List ℕ) → length xs ≡ 8 → two (flat_map spaced_hex (take 4 xs)) (flat_map spaced_hex (take 4 (drop 4 xs))) ≡ flat_map spaced_hex xs
unfolding hex
two_are_spaced xs long =
    let P : List ℕ → Type 0 = λ ys. two (flat_map spaced_hex (take 4 ys)) (flat_map spaced_hex (take 4 (drop 4 ys))) ≡ flat_map spaced_hex ys in
    subst P (places_are xs 8 0 (sym long)) refl

-- the LF after seven numbers, and after six
abbrev pub ended : List ℕ → List ℕ
ended xs = flat_map spaced_hex xs ++ 10 ∷ []

pub seven_ended : (text xs : List ℕ) → length xs ≡ 7 → text ≡ flat_map spaced_hex (at_places 7 0 xs ++ 0 ∷ []) → take 64 (set text 63 10) ≡ ended xs
unfolding hex
seven_ended text xs long is = ap (λ (t : List ℕ). take 64 (set t 63 10)) is ∙ ap ended (places_are xs 7 0 (sym long))

pub six_ended : (text xs : List ℕ) → length xs ≡ 6 → text ≡ flat_map spaced_hex (at_places 6 0 xs ++ 0 ∷ 0 ∷ []) → take 55 (set text 54 10) ≡ ended xs
unfolding hex
six_ended text xs long is = ap (λ (t : List ℕ). take 55 (set t 54 10)) is ∙ ap ended (places_are xs 6 0 (sym long))

pub ended_ascii : (xs : List ℕ) → IsAscii (ended xs)
ended_ascii xs = IsAscii-append (flat_map spaced_hex xs) (10 ∷ []) (spaced_ascii xs) (IsAscii-cons 10 [] (omega arith) IsAscii-nil)

-- ## one more text

pub one_more : (f : ℕ → List ℕ) (bs xs : List ℕ) (k i : ℕ) → k + i < length xs → (bs ++ flat_map f (take (k + i) xs)) ++ f (get_or (between k (length xs) xs) i 0) ≡ bs ++ flat_map f (take (k + (i + 1)) xs)
one_more f bs xs k i within =
    let front : List ℕ = take (k + i) xs in
    let next : k + i + 1 ≡ k + (i + 1) = omega arith in
    ap (λ (x : ℕ). (bs ++ flat_map f front) ++ f x) (get_or-between xs k (length xs) i 0 within)
    ∙ flat_map_more f bs front (get_or xs (k + i) 0)
    ∙ ap (λ (ys : List ℕ). bs ++ flat_map f ys) (sym (take_more xs (k + i) 0 within))
    ∙ ap (λ (n : ℕ). bs ++ flat_map f (take n xs)) next

-- Summaries of sets of tasks.
use Rattle.std.proofs.Common.{◌≡◌, ◌≢◌, ◌+◌, ◌-◌, ◌*◌, ◌/◌, ◌%◌, ◌<◌, ◌≤◌, ◌^◌, ℕ, zero, suc, true, false, cond, ◌&&◌, ◌||◌, not, List, [], ◌∷◌, length, Option, Some, None, inl, inr, refl, sym, subst, ◌∙◌, ap, arith, eqb, leb, get_or, set, replicate, get_or-set_same, get_or-set_other, w32}
use Rattle.std.specs.Int.{bit_at, bit_not}
use Rattle.std.specs.Int.Bits.{bit_and, bit_or}
use lib.Count.{count_trailing_zeros, count_leading_zeros}
use Rattle.std.proofs.lemmas.Bool.Decides.{eqb_tells}
use Rattle.std.proofs.lemmas.Bool.{cases_lt, false≢true}
use Rattle.std.proofs.lemmas.List.{get_or_past}
use Rattle.std.proofs.lemmas.Nat.Bits.{bit_at-zero, bit_at-trailing_zeros, bit_at_set_same, bit_at_above, bit_at_cat_high, bit_at_lowest}
use Rattle.std.proofs.lemmas.Nat.{leading_top, leading_length, pow_pos}
use native.Mathlib.Nat.{pow-suc}
use Rattle.task_table.specs.kept.TaskSets.{has, IsFirstFrom, IsSummary, IsUsed}
use Rattle.task_table.proofs.kept.TaskSets.{has_in, has_past, has_inserted, has_removed, has_none, bits_cut, found_in, none_in, none_left}

abbrev pub one : ℕ → List ℕ
one s = s ∷ []

-- ## one word

pub no_word : (words : List ℕ) (w i : ℕ) → get_or words w 0 ≡ 0 → i / 32 ≡ w → has words i ≡ false
unfolding has
no_word words w i none here = rw (here, none, bit_at-zero) refl

-- a bit of a word
bit_some : (n k : ℕ) → bit_at n k ≡ 1 → 0 < n
bit_some zero k e = absurd (omega (arith, e, bit_at-zero k))
bit_some (suc n) k e = omega arith

-- a word with a single set bit
has_bit : (n k : ℕ) → k < 32 → has (one n) k ≡ eqb (bit_at n k) 1
has_bit n k below = let same : 0 * 32 + k ≡ k = omega arith in ap (has (one n)) (sym same) ∙ has_in (one n) 0 k below

-- ## what a summary says

told_none : (words : List ℕ) (s w : ℕ) → IsSummary words s → has (one s) w ≡ false → get_or words w 0 ≡ 0
told_none words s w h none = elim (eqb_tells (get_or words w 0) 0) [
  | inl same ↦ same.1
  | inr other ↦ absurd (false≢true (sym none ∙ h w ∙ ap not other.0))
]

pub told_some : (words : List ℕ) (s w : ℕ) → IsSummary words s → has (one s) w ≡ true → get_or words w 0 ≢ 0
told_some words s w h some e = absurd (false≢true (sym (h w ∙ ap (λ (n : ℕ). not (eqb n 0)) e) ∙ some))

not_zero : (n : ℕ) → 0 < n → not (eqb n 0) ≡ true
not_zero n some = elim (eqb_tells n 0) [ inl same ↦ absurd (omega (arith, some, same.1)) | inr other ↦ ap not other.0 ]

pub above_zero : (n : ℕ) → n ≢ 0 → 0 < n
above_zero zero ne = absurd (ne refl)
above_zero (suc n) ne = omega arith

pub summary_of_none : (n : ℕ) → IsSummary (replicate n 0) 0
summary_of_none n w = has_none 1 w ∙ sym (ap (λ (m : ℕ). not (eqb m 0)) (zeros n w))
  where
    zeros : (n k : ℕ) → get_or {A = ℕ} (replicate n 0) k 0 ≡ 0
    zeros zero k = refl
    zeros (suc n) zero = refl
    zeros (suc n) (suc k) = zeros n k

pub summary_inserted : (words : List ℕ) (s place : ℕ) → place / 32 < length words → place / 32 < 32 → IsSummary words s → IsSummary (set words (place / 32) (bit_or (get_or words (place / 32) 0) (1 * 2 ^ (place % 32) % 2 ^ 32))) (bit_or s (1 * 2 ^ (place / 32) % 2 ^ 32))
summary_inserted words s place there low h w =
    told ∙ elim (eqb_tells w wd) [
      | inl same ↦ rw same.0 (sym (ap (λ (n : ℕ). not (eqb n 0)) (ap (λ (n : ℕ). get_or (set words wd v) n 0) same.1 ∙ get_or-set_same words wd v 0 there) ∙ not_zero v (bit_some v k (bit_at_set_same w32 (get_or words wd 0) k within))))
      | inr other ↦ rw other.0 (h w ∙ sym (ap (λ (n : ℕ). not (eqb n 0)) (get_or-set_other words wd w v 0 other.1)))
    ]
  where
    wd : ℕ
    wd = place / 32

    k : ℕ
    k = place % 32

    v : ℕ
    v = bit_or (get_or words (place / 32) 0) (1 * 2 ^ (place % 32) % 2 ^ 32)

    within : place % 32 < 32
    within = omega arith

    told : has (one (bit_or s (1 * 2 ^ (place / 32) % 2 ^ 32))) w ≡ (eqb w wd || has (one s) w)
    told =
        let first : wd / 32 ≡ 0 = omega (arith, low) in
        let same : wd % 32 ≡ wd = omega (arith, low) in
        rw (first, same) at (has_inserted (one s) wd w (omega (arith, first)))

pub summary_removed : (words : List ℕ) (s place left : ℕ) → place / 32 < length words → place / 32 < 32 → left ≡ 0 → IsSummary words s → IsSummary (set words (place / 32) left) (bit_and s (bit_not w32 (1 * 2 ^ (place / 32) % 2 ^ 32)))
summary_removed words s place left there low none h w =
    told ∙ elim (eqb_tells w wd) [
      | inl same ↦ rw same.0 (sym (ap (λ (n : ℕ). not (eqb n 0)) (ap (λ (n : ℕ). get_or (set words wd left) n 0) same.1 ∙ get_or-set_same words wd left 0 there ∙ none)))
      | inr other ↦ rw other.0 (h w ∙ sym (ap (λ (n : ℕ). not (eqb n 0)) (get_or-set_other words wd w left 0 other.1)))
    ]
  where
    wd : ℕ
    wd = place / 32

    told : has (one (bit_and s (bit_not w32 (1 * 2 ^ (place / 32) % 2 ^ 32)))) w ≡ (not (eqb w wd) && has (one s) w)
    told =
        let first : wd / 32 ≡ 0 = omega (arith, low) in
        let same : wd % 32 ≡ wd = omega (arith, low) in
        rw (first, same) at (has_removed (one s) wd w (omega (arith, first)))

-- ## whether there is a member

-- ## the least set bit from a position on

cut_of : (bits from : ℕ) → from < 32 → (k : ℕ) → k < 32 → bit_at (bit_and bits ((2 ^ 32 - 1) * 2 ^ from % 2 ^ 32)) k ≡ cond (leb from (0 * 32 + k)) (bit_at bits k) 0
cut_of bits from low k below =
    let first : 0 ≡ from / 32 = omega (arith, low) in
    let same : from % 32 ≡ from = omega (arith, low) in
    rw same at (bits_cut bits from 0 k first below)

pub first_bit : (bits from later : ℕ) → from < 32 → later ≡ bit_and bits ((2 ^ 32 - 1) * 2 ^ from % 2 ^ 32) → 0 < later → later < 2 ^ 32 → IsFirstFrom (one bits) from (Some (count_trailing_zeros 32 later))
first_bit bits from later low is some small = let same : 0 * 32 + count_trailing_zeros 32 later ≡ count_trailing_zeros 32 later = omega arith in subst (λ (n : ℕ). IsFirstFrom (one bits) from (Some n)) same (found_in (one bits) from 0 later some small (λ k below. ap (λ (n : ℕ). bit_at n k) is ∙ cut_of bits from low k below) (λ i above under. absurd (omega (arith, under))))

pub no_bit : (bits from later : ℕ) → from < 32 → later ≡ bit_and bits ((2 ^ 32 - 1) * 2 ^ from % 2 ^ 32) → later ≡ 0 → (i : ℕ) → from ≤ i → has (one bits) i ≡ false
no_bit bits from later low is none =
    none_left (one bits) from 1 (omega arith) (none_in (one bits) from 0 later none (λ k below. ap (λ (n : ℕ). bit_at n k) is ∙ cut_of bits from low k below) (λ i above under. absurd (omega (arith, under))))

-- ## the least member from a place on

-- a member of a word is one of the set
in_word : (words : List ℕ) (w k : ℕ) → k < 32 → has words (w * 32 + k) ≡ has (one (get_or words w 0)) k
in_word words w k below = has_in words w k below ∙ sym (has_bit (get_or words w 0) k below)

pub low_bit : (n k : ℕ) → has (one n) k ≡ true → k < 32
low_bit n k is = elim (cases_lt k 32) [ inl lt ↦ lt | inr ge ↦ absurd (false≢true (sym (has_past (one n) k (omega (arith, ge))) ∙ is)) ]

-- a place by its word and its bit
split_at : (P : ℕ → Type 0) (w i : ℕ) → w * 32 ≤ i → i < w * 32 + 32 → ((k : ℕ) → k < 32 → i ≡ w * 32 + k → P (w * 32 + k)) → P i
split_at P w i above below f =
    let same : w * 32 + (i - w * 32) ≡ i = omega (arith, above) in
    subst P same (f (i - w * 32) (omega (arith, above, below)) (sym same))

-- the first of a word, cut at a place of this word
pub found_here : (words : List ℕ) (place bit : ℕ) → IsFirstFrom (one (get_or words (place / 32) 0)) (place % 32) (Some bit) → IsFirstFrom words place (Some (place / 32 * 32 + bit))
found_here words place bit h =
    let low = low_bit _ bit h.1 in (
      omega (arith, h.0),
      in_word words (place / 32) bit low ∙ h.1,
      λ i above under. split_at (λ n. has words n ≡ false) (place / 32) i (omega (arith, above)) (omega (arith, under, low)) (λ k below is. in_word words (place / 32) k below ∙ h.2 k (omega (arith, above, is)) (omega (arith, under, is))),
    )

-- none of the word, and what comes after it
pub found_behind : (words : List ℕ) (place : ℕ) (first : Option ℕ) → IsFirstFrom (one (get_or words (place / 32) 0)) (place % 32) None → IsFirstFrom words (place / 32 * 32 + 32) first → IsFirstFrom words place first
found_behind words place None none h = λ i above. elim (cases_lt i (place / 32 * 32 + 32)) [
  | inl lt ↦ split_at (λ n. has words n ≡ false) (place / 32) i (omega (arith, above)) lt (λ k below is. in_word words (place / 32) k below ∙ none k (omega (arith, above, is)))
  | inr ge ↦ h i ge
]
found_behind words place (Some first) none h = (
  omega (arith, h.0),
  h.1,
  λ i above under. elim (cases_lt i (place / 32 * 32 + 32)) [
    | inl lt ↦ split_at (λ n. has words n ≡ false) (place / 32) i (omega (arith, above)) lt (λ k below is. in_word words (place / 32) k below ∙ none k (omega (arith, above, is)))
    | inr ge ↦ h.2 i ge under
  ],
)

-- no later word has any
pub none_after : (words : List ℕ) (s word : ℕ) → IsSummary words s → IsFirstFrom (one s) (word + 1) None → IsFirstFrom words (word * 32 + 32) None
none_after words s word h none i above = no_word words (i / 32) i (told_none words s (i / 32) h (none (i / 32) (omega (arith, above)))) refl

pub found_after : (words : List ℕ) (s word later bit : ℕ) → IsSummary words s → IsFirstFrom (one s) (word + 1) (Some later) → IsFirstFrom (one (get_or words later 0)) 0 (Some bit) → IsFirstFrom words (word * 32 + 32) (Some (later * 32 + bit))
found_after words s word later bit h is its =
    let low = low_bit _ bit its.1 in (
      omega (arith, is.0),
      in_word words later bit low ∙ its.1,
      λ i above under. elim (cases_lt i (later * 32)) [
        | inl lt ↦ no_word words (i / 32) i (told_none words s (i / 32) h (is.2 (i / 32) (omega (arith, above)) (omega (arith, lt)))) refl
        | inr ge ↦ split_at (λ n. has words n ≡ false) later i ge (omega (arith, under, low)) (λ k below e. in_word words later k below ∙ its.2 k (omega arith) (omega (arith, under, e)))
      ],
    )

-- the lowest bit of a word
pub lowest : (n : ℕ) → n ≢ 0 → n < 2 ^ 32 → IsFirstFrom (one n) 0 (Some (count_trailing_zeros 32 n))
lowest n some small =
    let z = bit_at-trailing_zeros w32 n (above_zero n some) small in (
      omega arith,
      has_bit n _ z.0 ∙ ap (λ (b : ℕ). eqb b 1) z.1,
      λ i above under. has_bit n i (omega (arith, under, z.0)) ∙ ap (λ (b : ℕ). eqb b 1) (z.2 i under),
    )

-- a word for which the summary has a bit exists
pub there_of : (words : List ℕ) (s w : ℕ) → IsSummary words s → has (one s) w ≡ true → w < length words
there_of words s w h is = elim (cases_lt w (length words)) [
  | inl lt ↦ lt
  | inr ge ↦ absurd (told_some words s w h is (get_or_past words w 0 ge))
]

-- ## as many words as are used

top_bit : (n j : ℕ) → 2 ^ j ≤ n → n < 2 ^ suc j → bit_at n j ≡ 1
top_bit n j low high = ap (λ (m : ℕ). bit_at m j) split ∙ bit_at_cat_high 1 j (n - 2 ^ j) j (omega (arith, low, high, pow-suc 2 j)) (omega arith) ∙ ap (bit_at 1) none ∙ bit_at_lowest 1
  where
    split : n ≡ 1 * 2 ^ j + (n - 2 ^ j)
    split = omega (arith, low)

    none : j - j ≡ 0
    none = omega arith

pub beyond_used : (words : List ℕ) (s used i : ℕ) → IsSummary words s → IsUsed s used → used ≤ i / 32 → has words i ≡ false
beyond_used words s used i h u above = no_word words (i / 32) i (told_none words s (i / 32) h (u.none (i / 32) above)) refl

pub used_there : (words : List ℕ) (s used w : ℕ) → IsSummary words s → IsUsed s used → w < used → w < length words
used_there words s zero w h u below = absurd (omega arith)
used_there words s (suc used) w h u below = let last = there_of words s used h (u.last used (omega arith)) in omega (arith, last, below)

-- the place of the highest bit, and one more
pub used_of : (s lead : ℕ) → s < 2 ^ 32 → lead ≡ count_leading_zeros 32 s → IsUsed s (32 - lead)
used_of zero lead small is = record {
  most = omega arith;
  none = λ w above. has_none 1 w;
  last = λ w e. absurd (omega (arith, e, is, all_zeros 32));
}
  where
    low : (m : ℕ) → 2 ^ m ≤ 2 * 0 + 1 → m ≡ 0
    low zero b = refl
    low (suc m) b = absurd (omega (arith, b, pow-suc 2 m, pow_pos m))

    all_zeros : (k : ℕ) → count_leading_zeros k 0 ≡ k
    all_zeros k = let h = leading_length k 0 (pow_pos k) in omega (arith, h.1, low h.0 h.3)
used_of (suc n) lead small is =
    let top = leading_top 32 (suc n) (omega arith) small in
    let j = top.0 in
    let used : 32 - lead ≡ suc j = omega (arith, is, top.1) in
    record {
      most = omega arith;
      none = λ w above. elim (cases_lt w 32) [
        | inl lt ↦ has_bit (suc n) w lt ∙ ap (λ (b : ℕ). eqb b 1) (bit_at_above (suc n) (suc j) w top.3 (omega (arith, above, used)))
        | inr ge ↦ has_past (one (suc n)) w (omega (arith, ge))
      ];
      last = λ w e.
          let here : w ≡ j = omega (arith, e, used) in
          let low : w < 32 = omega (arith, here, top.1) in
          has_bit (suc n) w low ∙ ap (λ (b : ℕ). eqb b 1) (ap (bit_at (suc n)) here ∙ top_bit (suc n) j top.2 top.3);
    }

-- if a word is the same in two sets, they have the same members in it
pub same_word : (xs ys : List ℕ) (i : ℕ) → get_or xs (i / 32) 0 ≡ get_or ys (i / 32) 0 → has xs i ≡ has ys i
unfolding has
same_word xs ys i same = rw same refl

-- Sets of tasks, by their words. A number in them is a place in the order of the tasks.
use Rattle.std.proofs.Common.{◌≡◌, ◌≢◌, ◌+◌, ◌-◌, ◌*◌, ◌/◌, ◌%◌, ◌<◌, ◌≤◌, ◌^◌, ℕ, zero, suc, true, false, cond, ◌&&◌, ◌||◌, not, List, length, Some, inl, inr, refl, sym, ◌∙◌, ap, arith, eqb, leb, get_or, set, replicate, get_or-set_same, get_or-set_other, w32, min}
use Rattle.std.specs.Int.{bit_at, bit_not}
use Rattle.std.specs.Int.Bits.{bit_and, bit_or}
use lib.Count.{count_trailing_zeros}
use Rattle.std.proofs.lemmas.Bool.Decides.{eqb_tells, leb_tells}
use Rattle.std.proofs.lemmas.Bool.{cases_lt, le-leb}
use Rattle.std.proofs.lemmas.List.{get_or_past}
use Rattle.std.proofs.lemmas.Nat.Bits.{bit_at-zero, shr_and_one, bit_at_and, bit_at-trailing_zeros, bit_at_set_same, bit_at_set_other, bit_at_clear_same, bit_at_clear_other, ones_shl, bit_at_mask_inside, bit_at_mask_below, bit_at-lt}
use Rattle.task_table.specs.kept.TaskSets.{has, IsFirstFrom}

same_place : (i k : ℕ) → i / 32 ≡ k / 32 → i % 32 ≡ k % 32 → i ≡ k
same_place i k e f = omega arith

-- ## the bit of a place

zeros : (n k : ℕ) → get_or {A = ℕ} (replicate n 0) k 0 ≡ 0
zeros zero k = refl
zeros (suc n) zero = refl
zeros (suc n) (suc k) = zeros n k

pub has_none : (n i : ℕ) → has (replicate n 0) i ≡ false
unfolding has
has_none n i = rw (zeros n (i / 32), bit_at-zero) refl

-- there are no bits past the words
pub has_past : (words : List ℕ) (i : ℕ) → length words ≤ i / 32 → has words i ≡ false
unfolding has
has_past words i past = rw (get_or_past words (i / 32) 0 past, bit_at-zero) refl

pub has_read : (words : List ℕ) (i n : ℕ) → n ≡ get_or words (i / 32) 0 → eqb (bit_and (n / 2 ^ (i % 32)) 1) 1 ≡ has words i
unfolding has
has_read words i n e = rw (shr_and_one n (i % 32), e) refl

pub has_in : (words : List ℕ) (w k : ℕ) → k < 32 → has words (w * 32 + k) ≡ eqb (bit_at (get_or words w 0) k) 1
unfolding has
has_in words w k below =
    let word : (w * 32 + k) / 32 ≡ w = omega arith in
    let bit : (w * 32 + k) % 32 ≡ k = omega arith in
    rw (word, bit) refl

has_set_here : (words : List ℕ) (w v i : ℕ) → w < length words → i / 32 ≡ w → has (set words w v) i ≡ eqb (bit_at v (i % 32)) 1
unfolding has
has_set_here words w v i there e = rw (e, get_or-set_same words w v 0 there) refl

has_set_other : (words : List ℕ) (w v i : ℕ) → i / 32 ≢ w → has (set words w v) i ≡ has words i
unfolding has
has_set_other words w v i ne = ap (λ (n : ℕ). eqb (bit_at n (i % 32)) 1) (get_or-set_other words w (i / 32) v 0 ne)

has_word : (words : List ℕ) (w i : ℕ) → i / 32 ≡ w → eqb (bit_at (get_or words w 0) (i % 32)) 1 ≡ has words i
unfolding has
has_word words w i e = rw e refl

-- ## a place comes and goes

pub has_inserted : (words : List ℕ) (place i : ℕ) → place / 32 < length words → has (set words (place / 32) (bit_or (get_or words (place / 32) 0) (1 * 2 ^ (place % 32) % 2 ^ 32))) i ≡ (eqb i place || has words i)
has_inserted words place i there =
    elim (eqb_tells i place) [
      | inl same ↦ rw same.0 (has_set_here words w v i there (ap (λ (n : ℕ). n / 32) same.1) ∙ ap (λ (n : ℕ). eqb n 1) (ap (λ (n : ℕ). bit_at v (n % 32)) same.1 ∙ bit_at_set_same w32 (get_or words w 0) k within))
      | inr other ↦ rw other.0 (elim (eqb_tells (i / 32) w) [
        | inl here ↦
            let ne : i % 32 ≢ k = λ e. other.1 (same_place i place here.1 e) in
            has_set_here words w v i there here.1 ∙ ap (λ (n : ℕ). eqb n 1) (bit_at_set_other w32 (get_or words w 0) k within (i % 32) ne) ∙ has_word words w i here.1
        | inr away ↦ has_set_other words w v i away.1
      ])
    ]
  where
    w : ℕ
    w = place / 32

    k : ℕ
    k = place % 32

    v : ℕ
    v = bit_or (get_or words (place / 32) 0) (1 * 2 ^ (place % 32) % 2 ^ 32)

    within : place % 32 < 32
    within = omega arith

pub has_removed : (words : List ℕ) (place i : ℕ) → place / 32 < length words → has (set words (place / 32) (bit_and (get_or words (place / 32) 0) (bit_not w32 (1 * 2 ^ (place % 32) % 2 ^ 32)))) i ≡ (not (eqb i place) && has words i)
has_removed words place i there =
    elim (eqb_tells i place) [
      | inl same ↦ rw same.0 (has_set_here words w v i there (ap (λ (n : ℕ). n / 32) same.1) ∙ ap (λ (n : ℕ). eqb n 1) (ap (λ (n : ℕ). bit_at v (n % 32)) same.1 ∙ bit_at_clear_same w32 (get_or words w 0) k within))
      | inr other ↦ rw other.0 (elim (eqb_tells (i / 32) w) [
        | inl here ↦
            let ne : i % 32 ≢ k = λ e. other.1 (same_place i place here.1 e) in
            let below : i % 32 < 32 = omega arith in
            has_set_here words w v i there here.1 ∙ ap (λ (n : ℕ). eqb n 1) (bit_at_clear_other w32 (get_or words w 0) k within (i % 32) below ne) ∙ has_word words w i here.1
        | inr away ↦ has_set_other words w v i away.1
      ])
    ]
  where
    w : ℕ
    w = place / 32

    k : ℕ
    k = place % 32

    v : ℕ
    v = bit_and (get_or words (place / 32) 0) (bit_not w32 (1 * 2 ^ (place % 32) % 2 ^ 32))

    within : place % 32 < 32
    within = omega arith

-- ## the least member from a place on

-- the bits of word w for the places at or above a place
abbrev pub IsCutAt : List ℕ → ℕ → ℕ → ℕ → Type 0
IsCutAt words from w bits = (k : ℕ) → k < 32 → bit_at bits k ≡ cond (leb from (w * 32 + k)) (bit_at (get_or words w 0) k) 0

min_bit : (b : ℕ) → b < 2 → min b 1 ≡ b
min_bit b small = omega arith

min_none : (b : ℕ) → min b 0 ≡ 0
min_none b = omega arith

pub bits_cut : (bits from w k : ℕ) → w ≡ from / 32 → k < 32 → bit_at (bit_and bits ((2 ^ 32 - 1) * 2 ^ (from % 32) % 2 ^ 32)) k ≡ cond (leb from (w * 32 + k)) (bit_at bits k) 0
bits_cut bits from w k here below =
    let within : from % 32 ≤ 32 = omega arith in
    ap (λ (m : ℕ). bit_at (bit_and bits m) k) (ones_shl 32 (from % 32) within)
    ∙ bit_at_and bits (2 ^ 32 - 2 ^ (from % 32)) k
    ∙ elim (leb_tells from (w * 32 + k)) [
      | inl t ↦
          let above : from % 32 ≤ k = omega (arith, t.1) in
          rw t.0 (ap (min (bit_at bits k)) (bit_at_mask_inside (from % 32) 32 k above below) ∙ min_bit _ (bit_at-lt bits k))
      | inr f ↦
          let under : k < from % 32 = omega (arith, f.1) in
          rw f.0 (ap (min (bit_at bits k)) (bit_at_mask_below (from % 32) 32 k under) ∙ min_none _)
    ]

-- the bits of word w, cut at a place of this word or an earlier one
pub found_in : (words : List ℕ) (from w bits : ℕ) → 0 < bits → bits < 2 ^ 32 → IsCutAt words from w bits → ((i : ℕ) → from ≤ i → i < w * 32 → has words i ≡ false) → IsFirstFrom words from (Some (w * 32 + count_trailing_zeros 32 bits))
found_in words from w bits some small cut before =
    let z = bit_at-trailing_zeros w32 bits some small in
    let k = count_trailing_zeros 32 bits in
    let below : k < 32 = z.0 in
    elim (leb_tells from (w * 32 + k)) [
      | inr f ↦ let none : bit_at bits k ≡ 0 = rw f.0 at (cut k below) in not_both (bit_at bits k) none z.1
      | inl t ↦
          let bit : bit_at bits k ≡ bit_at (get_or words w 0) k = rw t.0 at (cut k below) in (
            t.1,
            has_in words w k below ∙ ap (λ (n : ℕ). eqb n 1) (sym bit ∙ z.1),
            λ i above under. elim (cases_lt i (w * 32)) [
              | inl lt ↦ before i above lt
              | inr ge ↦ unset i (i - w * 32) (omega (arith, ge)) above (omega (arith, under)) (omega (arith, under, below))
            ],
          )
    ]
  where
    not_both : (n : ℕ) {P : Type 0} → n ≡ 0 → n ≡ 1 → P
    not_both n e f = absurd (omega arith)

    unset : (i j : ℕ) → i ≡ w * 32 + j → from ≤ i → j < count_trailing_zeros 32 bits → j < 32 → has words i ≡ false
    unset i j e above under low =
        let z = bit_at-trailing_zeros w32 bits some small in
        let t : leb from (w * 32 + j) ≡ true = le-leb _ _ (omega (arith, above, e)) in
        let bit : bit_at bits j ≡ bit_at (get_or words w 0) j = rw t at (cut j low) in
        rw e (has_in words w j low ∙ ap (λ (n : ℕ). eqb n 1) (sym bit ∙ z.2 j under))

-- none of its bits is set
pub none_in : (words : List ℕ) (from w bits : ℕ) → bits ≡ 0 → IsCutAt words from w bits → ((i : ℕ) → from ≤ i → i < w * 32 → has words i ≡ false) → (i : ℕ) → from ≤ i → i < (w + 1) * 32 → has words i ≡ false
none_in words from w bits none cut before i above under =
    elim (cases_lt i (w * 32)) [
      | inl lt ↦ before i above lt
      | inr ge ↦ unset (i - w * 32) (omega (arith, ge)) (omega (arith, under, ge))
    ]
  where
    unset : (j : ℕ) → i ≡ w * 32 + j → j < 32 → has words i ≡ false
    unset j e low =
        let t : leb from (w * 32 + j) ≡ true = le-leb _ _ (omega (arith, above, e)) in
        let bit : bit_at bits j ≡ bit_at (get_or words w 0) j = rw t at (cut j low) in
        rw e (has_in words w j low ∙ ap (λ (n : ℕ). eqb n 1) (sym bit ∙ ap (λ (n : ℕ). bit_at n j) none ∙ bit_at-zero j))

-- no word is left
pub none_left : (words : List ℕ) (from w : ℕ) → length words ≤ w → ((i : ℕ) → from ≤ i → i < w * 32 → has words i ≡ false) → (i : ℕ) → from ≤ i → has words i ≡ false
none_left words from w all before i above =
    elim (cases_lt i (w * 32)) [
      | inl lt ↦ before i above lt
      | inr ge ↦ has_past words i (omega (arith, ge, all))
    ]

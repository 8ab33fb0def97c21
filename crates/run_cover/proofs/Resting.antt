-- How many halfwords in a row belong to no known instruction.
use Rattle.std.proofs.Common.{◌≡◌, inl, inr, ◌<◌, ◌≤◌, ◌+◌, ◌*◌, ℕ, Bool, true, false, get_or, sym, ap, ◌∙◌, arith}
use Rattle.std.specs.List.{range_with_len}
use Rattle.std.proofs.lemmas.List.FromFn.{get_or-range_with_len, length-range_with_len}
use Rattle.std.proofs.lemmas.List.Sums.{position_or_len_is}
use Rattle.std.proofs.lemmas.Bool.{cases_eq}
use Rattle.run_cover.specs.Covered.{Covered}
use Rattle.run_cover.specs.Text.{is_taken_up, rest_len}

pub rest_is : (v : Covered) (a n i : ℕ) → i ≤ n → ((j : ℕ) → j < i → is_taken_up v (a + 2 * j) ≡ false) → (i < n → is_taken_up v (a + 2 * i) ≡ true) → i ≡ rest_len v a n
unfolding rest_len
rest_is v a n i le none some =
    let p : ℕ → Bool = λ j. is_taken_up v (a + 2 * j) in
    let many = length-range_with_len 0 n in
    sym (position_or_len_is p (range_with_len 0 n) i 0 (omega (arith, le, many))
    (λ j lt. at j false (omega (arith, lt, le)) (none j lt))
    (λ lt. let few : i < n = omega (arith, lt, many) in at i true few (some few)))
  where
    at : (j : ℕ) (b : Bool) → j < n → is_taken_up v (a + 2 * j) ≡ b → is_taken_up v (a + 2 * get_or (range_with_len 0 n) j 0) ≡ b
    at j b lt e =
        let read = get_or-range_with_len 0 n j 0 lt in
        let is : get_or (range_with_len 0 n) j 0 ≡ j = omega (arith, read) in
        ap (λ (i : ℕ). is_taken_up v (a + 2 * i)) is ∙ e

-- one more that does not
pub none_more : (v : Covered) (a i : ℕ) → ((j : ℕ) → j < i → is_taken_up v (a + 2 * j) ≡ false) → is_taken_up v (a + 2 * i) ≡ false → (j : ℕ) → j < i + 1 → is_taken_up v (a + 2 * j) ≡ false
none_more v a i none here j lt = elim (cases_eq j i) [
  | inl same ↦ ap (λ (n : ℕ). is_taken_up v (a + 2 * n)) same ∙ here
  | inr other ↦ none j (omega (arith, lt, other))
]

-- Where lines end.
use Rattle.std.proofs.Common.{◌≡◌, ℕ, suc, zero, ◌+◌, ◌-◌, ◌<◌, ◌≤◌, List, [], ◌∷◌, ◌++◌, length, get_or, inl, inr, subst, ◌⊎◌, take, drop, refl, ap, ◌∙◌, sym, arith, false, nat_eq, ◌&&◌}
use Rattle.std.proofs.lemmas.Bool.{ne_eqb, and_right}
use Rattle.std.proofs.Common.{add-one}
use Rattle.std.proofs.Math.Seq.{drop-cons}
use Rattle.std.proofs.lemmas.List.{take-append-drop, get_or-take, length-take-le, length-drop}
use Rattle.std.proofs.Math.Seq.{take-length}
use Rattle.text_lines.specs.Text.{lines_of, without_cr, with_first, starts_with, HasNoLf}

pub step_lf : (cs : List ℕ) → lines_of (10 ∷ cs) ≡ [] ∷ lines_of cs
unfolding lines_of
step_lf cs = refl

pub step_cr : (cs : List ℕ) → lines_of (13 ∷ 10 ∷ cs) ≡ lines_of (10 ∷ cs)
unfolding lines_of
step_cr cs = refl

pub step_other : (c : ℕ) (cs : List ℕ) → nat_eq c 10 ≡ false → (nat_eq c 13 && starts_with 10 cs) ≡ false → lines_of (c ∷ cs) ≡ with_first c (lines_of cs)
unfolding lines_of
step_other c cs h k = rw (h, k) refl

without_cr_13 : without_cr (13 ∷ []) ≡ []
unfolding without_cr
without_cr_13 = refl

without_cr_nil : without_cr [] ≡ []
unfolding without_cr
without_cr_nil = refl

pub lines_nil : lines_of [] ≡ []
unfolding lines_of
lines_nil = refl

without_cr_one : (c : ℕ) → (c ≡ 13 → ⊥) → without_cr (c ∷ []) ≡ c ∷ []
unfolding without_cr
without_cr_one c h = rw (ne_eqb c 13 h) refl

without_cr_more : (c d : ℕ) (ds : List ℕ) → without_cr (c ∷ d ∷ ds) ≡ c ∷ without_cr (d ∷ ds)
unfolding without_cr
without_cr_more c d ds = refl

one_cases : (c : ℕ) (ys : List ℕ) → (c ≡ 10 → ⊥) → (c ≡ 13) ⊎ (c ≡ 13 → ⊥) → lines_of (c ∷ 10 ∷ ys) ≡ without_cr (c ∷ []) ∷ lines_of ys
unfolding without_cr
one_cases c ys h (inl e) = subst (λ x. lines_of (x ∷ 10 ∷ ys) ≡ without_cr (x ∷ []) ∷ lines_of ys) (sym e) (step_cr ys ∙ step_lf ys)
one_cases c ys h (inr e) = rw (without_cr_one c e) (step_other c (10 ∷ ys) (ne_eqb c 10 h) (rw (ne_eqb c 13 e) refl) ∙ ap (with_first c) (step_lf ys))

-- a line and its LF
pub lines_lf : (xs ys : List ℕ) → HasNoLf xs → lines_of (xs ++ (10 ∷ ys)) ≡ without_cr xs ∷ lines_of ys
lines_lf [] ys h = rw without_cr_nil (step_lf ys)
lines_lf (c ∷ []) ys h = one_cases c ys (h 0 (omega arith)) (grind arith)
lines_lf (c ∷ d ∷ ds) ys h =
    step_other c (d ∷ (ds ++ (10 ∷ ys))) (ne_eqb c 10 (h 0 (omega arith))) (and_right _ _ (ne_eqb 10 d (λ e. h 1 (omega arith) (sym e))))
    ∙ ap (with_first c) (lines_lf (d ∷ ds) ys (λ k lt. h (suc k) (omega arith))) ∙ ap (λ t. t ∷ lines_of ys) (sym (without_cr_more c d ds))

-- the last line without one
pub lines_last : (xs : List ℕ) → 0 < length xs → HasNoLf xs → lines_of xs ≡ xs ∷ []
lines_last [] lt h = absurd (omega arith)
lines_last (c ∷ []) lt h = step_other c [] (ne_eqb c 10 (h 0 lt)) (and_right _ false refl) ∙ ap (with_first c) lines_nil
lines_last (c ∷ d ∷ ds) lt h =
    step_other c (d ∷ ds) (ne_eqb c 10 (h 0 lt)) (and_right _ _ (ne_eqb 10 d (λ e. h 1 (omega arith) (sym e))))
    ∙ ap (with_first c) (lines_last (d ∷ ds) (omega arith) (λ k lt. h (suc k) (omega arith)))

pub without_cr_at : (s : List ℕ) (j : ℕ) → suc j ≡ length s → get_or s j 0 ≡ 13 → without_cr s ≡ take j s
without_cr_at [] j lt h = absurd (omega arith)
without_cr_at (c ∷ []) zero lt h = subst (λ x. without_cr (x ∷ []) ≡ []) (sym h) (without_cr_13)
without_cr_at (c ∷ []) (suc j) lt h = absurd (omega arith)
without_cr_at (c ∷ d ∷ ds) zero lt h = absurd (omega arith)
without_cr_at (c ∷ d ∷ ds) (suc j) lt h = without_cr_more c d ds ∙ ap (λ t. c ∷ t) (without_cr_at (d ∷ ds) j (omega arith) h)

pub without_cr_none : (s : List ℕ) → ((j : ℕ) → suc j ≡ length s → get_or s j 0 ≡ 13 → ⊥) → without_cr s ≡ s
without_cr_none [] h = without_cr_nil
without_cr_none (c ∷ []) h = without_cr_one c (h 0 refl)
without_cr_none (c ∷ d ∷ ds) h = without_cr_more c d ds ∙ ap (λ t. c ∷ t) (without_cr_none (d ∷ ds) (λ j lt. h (suc j) (omega arith)))

-- cut at the first LF
pub lines_cut : (s : List ℕ) (k : ℕ) → k < length s → ((j : ℕ) → j < k → get_or s j 0 ≡ 10 → ⊥) → get_or s k 0 ≡ 10 → lines_of s ≡ without_cr (take k s) ∷ lines_of (drop (k + 1) s)
lines_cut s k lt h e =
    let cell : drop k s ≡ 10 ∷ drop (k + 1) s = drop-cons s k 0 lt ∙ ap (λ x. x ∷ drop (suc k) s) e ∙ ap (λ n. 10 ∷ drop n s) (sym (add-one k)) in
    let whole : s ≡ take k s ++ (10 ∷ drop (k + 1) s) = sym (take-append-drop k s) ∙ ap (λ t. take k s ++ t) cell in
    let size : length (take k s) ≡ k = length-take-le k s (omega arith) in
    ap lines_of whole ∙ lines_lf (take k s) (drop (k + 1) s) (λ j lt q. h j (omega arith) (sym (get_or-take k s j 0 (omega arith)) ∙ q))

pub take_rest : (s : List ℕ) (k : ℕ) → take (length s - k) (drop k s) ≡ drop k s
take_rest s k = ap (λ n. take n (drop k s)) (sym (length-drop k s)) ∙ take-length (drop k s)

pub drop_over : (s : List ℕ) (k : ℕ) → length s ≤ k → drop k s ≡ []
drop_over [] zero h = refl
drop_over [] (suc k) h = refl
drop_over (c ∷ cs) zero h = absurd (omega arith)
drop_over (c ∷ cs) (suc k) h = drop_over cs k (omega arith)

pub lines_over : (s : List ℕ) (k : ℕ) → 0 < length s → length s ≤ k → HasNoLf s → lines_of s ≡ s ∷ lines_of (take (length s - k) (drop k s))
lines_over s k lt h free = lines_last s lt free ∙ ap (λ t. s ∷ t) (sym lines_nil) ∙ ap (λ t. s ∷ lines_of t) (sym (take_rest s k ∙ drop_over s k h))

pub lines_empty : (s : List ℕ) → length s ≡ 0 → lines_of s ≡ []
lines_empty [] h = lines_nil
lines_empty (c ∷ cs) h = absurd (omega arith)

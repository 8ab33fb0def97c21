-- Where lines and words end.
use Rattle.std.proofs.Common.{◌≡◌, ℕ, suc, zero, ◌+◌, ◌-◌, ◌<◌, ◌≤◌, List, [], ◌∷◌, length, get_or, take, drop, refl, ap, ◌∙◌, sym, arith, Bool, false, cond}
use Rattle.std.proofs.lemmas.Bool.{ne_eqb, eq-eqb}
use Rattle.std.proofs.Common.{add-one}
use Rattle.text_lines.specs.Text.{with_first}
use Rattle.trace_audit.specs.Texts.{lines_of, pieces_of}
use Rattle.text_lines.proofs.Ends.{take_rest, drop_over}

piece_end : (end : ℕ) (c : ℕ) (cs : List ℕ) → c ≡ end → pieces_of end (c ∷ cs) ≡ [] ∷ pieces_of end cs
unfolding pieces_of
piece_end end c cs e = rw (eq-eqb c end e) refl

piece_more : (end : ℕ) (c : ℕ) (cs : List ℕ) → (c ≡ end → ⊥) → pieces_of end (c ∷ cs) ≡ with_first c (pieces_of end cs)
unfolding pieces_of
piece_more end c cs h = rw (ne_eqb c end h) refl

piece_none : (end : ℕ) → pieces_of end [] ≡ [] ∷ []
unfolding pieces_of
piece_none end = refl

-- the first piece ends at the first place
pub pieces_at : (end : ℕ) (s : List ℕ) (k : ℕ) → k < length s → ((j : ℕ) → j < k → get_or s j 0 ≡ end → ⊥) → get_or s k 0 ≡ end → pieces_of end s ≡ take k s ∷ pieces_of end (drop (suc k) s)
pieces_at end [] k lt h e = absurd (omega arith)
pieces_at end (c ∷ cs) zero lt h e = piece_end end c cs e
pieces_at end (c ∷ cs) (suc k) lt h e =
    piece_more end c cs (h 0 (omega arith)) ∙ ap (with_first c) (pieces_at end cs k (omega arith) (λ j lt. h (suc j) (omega arith)) e)

pub pieces_whole : (end : ℕ) (s : List ℕ) → ((j : ℕ) → j < length s → get_or s j 0 ≡ end → ⊥) → pieces_of end s ≡ s ∷ []
pieces_whole end [] h = piece_none end
pieces_whole end (c ∷ cs) h = piece_more end c cs (h 0 (omega arith)) ∙ ap (with_first c) (pieces_whole end cs (λ j lt. h (suc j) (omega arith)))

line_end : (c : ℕ) (cs : List ℕ) → c ≡ 10 → lines_of (c ∷ cs) ≡ [] ∷ lines_of cs
unfolding lines_of
line_end c cs e = rw (eq-eqb c 10 e) refl

line_more : (c : ℕ) (cs : List ℕ) → (c ≡ 10 → ⊥) → lines_of (c ∷ cs) ≡ with_first c (lines_of cs)
unfolding lines_of
line_more c cs h = rw (ne_eqb c 10 h) refl

pub line_none : lines_of [] ≡ []
unfolding lines_of
line_none = refl

pub lines_at : (s : List ℕ) (k : ℕ) → k < length s → ((j : ℕ) → j < k → get_or s j 0 ≡ 10 → ⊥) → get_or s k 0 ≡ 10 → lines_of s ≡ take k s ∷ lines_of (drop (suc k) s)
lines_at [] k lt h e = absurd (omega arith)
lines_at (c ∷ cs) zero lt h e = line_end c cs e
lines_at (c ∷ cs) (suc k) lt h e =
    line_more c cs (h 0 (omega arith)) ∙ ap (with_first c) (lines_at cs k (omega arith) (λ j lt. h (suc j) (omega arith)) e)

pub lines_whole : (s : List ℕ) → 0 < length s → ((j : ℕ) → j < length s → get_or s j 0 ≡ 10 → ⊥) → lines_of s ≡ s ∷ []
lines_whole [] lt h = absurd (omega arith)
lines_whole (c ∷ []) lt h = line_more c [] (h 0 (omega arith)) ∙ ap (with_first c) line_none
lines_whole (c ∷ d ∷ ds) lt h = line_more c (d ∷ ds) (h 0 (omega arith)) ∙ ap (with_first c) (lines_whole (d ∷ ds) (omega arith) (λ j lt. h (suc j) (omega arith)))

pub lines_empty : (s : List ℕ) → length s ≡ 0 → lines_of s ≡ []
lines_empty [] h = line_none
lines_empty (c ∷ cs) h = absurd (omega arith)

-- ## the same for slices

pub cut_line : (s : List ℕ) (k : ℕ) → k < length s → ((j : ℕ) → j < k → get_or s j 0 ≡ 10 → ⊥) → get_or s k 0 ≡ 10 → lines_of s ≡ take k s ∷ lines_of (take (length s - (k + 1)) (drop (k + 1) s))
cut_line s k lt h e = lines_at s k lt h e ∙ ap (λ n. take k s ∷ lines_of (drop n s)) (sym (add-one k)) ∙ ap (λ r. take k s ∷ lines_of r) (sym (take_rest s (k + 1)))

take_over : (s : List ℕ) (k : ℕ) → length s ≤ k → take k s ≡ s
take_over [] zero h = refl
take_over [] (suc k) h = refl
take_over (c ∷ cs) zero h = absurd (omega arith)
take_over (c ∷ cs) (suc k) h = ap (λ t. c ∷ t) (take_over cs k (omega arith))

pub last_line_cut : (s : List ℕ) (k : ℕ) → 0 < length s → length s ≤ k → ((j : ℕ) → j < k → get_or s j 0 ≡ 10 → ⊥) → lines_of s ≡ take k s ∷ lines_of (take (length s - k) (drop k s))
last_line_cut s k lt le h =
    lines_whole s lt (λ j less. h j (omega arith)) ∙ ap (λ l. l ∷ []) (sym (take_over s k le)) ∙ ap (λ r. take k s ∷ r) (sym line_none ∙ ap lines_of (sym (take_rest s k ∙ drop_over s k le)))

pub cut_piece : (end : ℕ) (s : List ℕ) (k : ℕ) → k < length s → ((j : ℕ) → j < k → get_or s j 0 ≡ end → ⊥) → get_or s k 0 ≡ end → pieces_of end s ≡ take k s ∷ pieces_of end (take (length s - (k + 1)) (drop (k + 1) s))
cut_piece end s k lt h e = pieces_at end s k lt h e ∙ ap (λ n. take k s ∷ pieces_of end (drop n s)) (sym (add-one k)) ∙ ap (λ r. take k s ∷ pieces_of end r) (sym (take_rest s (k + 1)))

pub last_piece : (end : ℕ) (s : List ℕ) (k : ℕ) → length s ≤ k → ((j : ℕ) → j < k → get_or s j 0 ≡ end → ⊥) → pieces_of end s ≡ take k s ∷ []
last_piece end s k le h = pieces_whole end s (λ j less. h j (omega arith)) ∙ ap (λ l. l ∷ []) (sym (take_over s k le))

pub words_open : (o : Bool) (ws : List (List ℕ)) (w : List ℕ) (more : List (List ℕ)) → o ≡ false → ws ≡ w ∷ more → cond o [] ws ≡ w ∷ cond o [] more
words_open o ws w more f e = rw f e

pub words_close : (o : Bool) (ws : List (List ℕ)) (w : List ℕ) → o ≡ false → ws ≡ w ∷ [] → cond o [] ws ≡ w ∷ []
words_close o ws w f e = rw f e

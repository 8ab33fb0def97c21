-- A text that is cut into lines, and a line that is cut at its largest length.
use Rattle.std.proofs.Common.{◌≡◌, ◌∙◌, ◌⊎◌, inl, inr, ℕ, zero, suc, ◌+◌, ◌<◌, ◌≤◌, ◌==◌, cond, Bool, true, false, List, [], ◌∷◌, ◌++◌, length, get_or, take, refl, sym, ap, subst, arith, append_assoc, zero-add, if◌then◌else◌, nat_eq, Err, drop, drop-cons}
use Rattle.std.specs.List.{count_by}
use Rattle.std.proofs.lemmas.Bool.{lt-ltb, ne_eqb}
use Rattle.std.proofs.lemmas.List.{append-nil, get_or-take, length-append, length-take, length-take-le, take-append-drop, take-append-le, take_all, take_more}
use Rattle.std.proofs.lemmas.List.Sums.{sum_by-append}
use Rattle.std.proofs.Math.Seq.{take-append_seam}
use Rattle.text_lines.specs.Text.{HasNoLf, lines_of, without_cr}
use Rattle.text_lines.proofs.Ends.{lines_last, lines_lf, lines_nil}
use Rattle.debug_core.specs.Live.{ended_lines, live_said}
use Rattle.debug_core.specs.UnderWay.{IsCut, IsOneLine, first_said}

-- ---- a text, whatever comes behind it

no_lf_more : (line : List ℕ) (c : ℕ) → HasNoLf line → (c ≡ 10 → ⊥) → (k : ℕ) → k < length (line ++ c ∷ []) → get_or (line ++ c ∷ []) k 0 ≡ 10 → ⊥
no_lf_more [] c h other zero lt e = other e
no_lf_more [] c h other (suc k) lt e = omega arith
no_lf_more (d ∷ ds) c h other zero lt e = h 0 (omega arith) e
no_lf_more (d ∷ ds) c h other (suc k) lt e = no_lf_more ds c (λ j below. h (suc j) (omega arith)) other k (omega arith) e

count_more : (text : List ℕ) (c : ℕ) → count_by (λ b. b == 10) (text ++ c ∷ []) ≡ count_by (λ b. b == 10) text + cond (c == 10) 1 0
count_more text c = sum_by-append (λ b. cond (b == 10) 1 0) text (c ∷ []) ∙ ap (λ n. count_by (λ b. b == 10) text + n) (zero-add (cond (c == 10) 1 0))

pub cut_none : IsCut [] [] []
cut_none = record { no_lf = λ k lt e. omega arith; count = refl; whole = λ rest. refl }

pub cut_more : (text : List ℕ) (lines : List (List ℕ)) (behind : List ℕ) (c : ℕ) → (c ≡ 10 → ⊥) → IsCut text lines behind → IsCut (text ++ c ∷ []) lines (behind ++ c ∷ [])
cut_more text lines behind c other h =
    let none : (c == 10) ≡ false = ne_eqb c 10 other in
    record {
      no_lf = no_lf_more behind c h.no_lf other;
      count = omega (arith, count_more text c, ap {B = ℕ} (λ b. cond b 1 0) none, h.count);
      whole = λ rest. ap lines_of (append_assoc text (c ∷ []) rest) ∙ h.whole (c ∷ rest) ∙ ap (λ t. lines ++ lines_of t) (sym (append_assoc behind (c ∷ []) rest));
    }

pub cut_lf : (text : List ℕ) (lines : List (List ℕ)) (behind : List ℕ) → IsCut text lines behind → IsCut (text ++ 10 ∷ []) (lines ++ without_cr behind ∷ []) []
cut_lf text lines behind h = record {
  no_lf = λ k lt e. omega arith;
  count = omega (arith, count_more text 10, h.count, length-append lines (without_cr behind ∷ []));
  whole = λ rest.
      ap lines_of (append_assoc text (10 ∷ []) rest) ∙ h.whole (10 ∷ rest) ∙ ap (λ (ls : List (List ℕ)). lines ++ ls) (lines_lf behind rest h.no_lf)
      ∙ sym (append_assoc lines (without_cr behind ∷ []) (lines_of rest));
}

-- the lines that an LF ended
pub cut_ended : (text : List ℕ) (lines : List (List ℕ)) (behind : List ℕ) → IsCut text lines behind → ended_lines text ≡ lines
cut_ended text lines behind h =
    ap (λ n. take n (lines_of text)) h.count
    ∙ ap (λ (ls : List (List ℕ)). take (length lines) ls) (sym (ap lines_of (append-nil text)) ∙ h.whole [])
    ∙ take-append_seam lines (lines_of (behind ++ []))

-- ---- one line

pub lf_line : (line : List ℕ) → HasNoLf line → lines_of (line ++ 10 ∷ []) ≡ without_cr line ∷ []
lf_line line h = lines_lf line [] h ∙ ap (λ (ls : List (List ℕ)). without_cr line ∷ ls) lines_nil

pub last_line : (line : List ℕ) → HasNoLf line → (lines_of line ≡ []) ⊎ (lines_of line ≡ line ∷ [])
last_line [] h = inl lines_nil
last_line (c ∷ cs) h = inr (lines_last (c ∷ cs) (omega arith) h)

-- ---- a line that is too long is so by its first bytes

no_lf_front : (n : ℕ) (line : List ℕ) → HasNoLf line → HasNoLf (take n line)
no_lf_front n line h = λ k lt e.
    let size = length-take n line in
    h k (omega arith) (sym (get_or-take n line k 0 (omega arith)) ∙ e)

cr_at_most : (b : Bool) (c : ℕ) → 1 ≤ length (if b then [] else c ∷ []) + 1
cr_at_most true c = omega arith
cr_at_most false c = omega arith

-- at most a CR is dropped
shorter_by_cr : (line : List ℕ) → length line ≤ length (without_cr line) + 1
unfolding without_cr
shorter_by_cr [] = omega arith
shorter_by_cr (c ∷ []) = cr_at_most (nat_eq c 13) c
shorter_by_cr (c ∷ d ∷ ds) = let h = shorter_by_cr (d ∷ ds) in omega arith

long_said : (line : List ℕ) → 1024 < length line → live_said line ≡ Err 5
unfolding live_said
long_said line h = rw (lt-ltb 1024 (length line) h) refl

said_of : (bytes line : List ℕ) → lines_of bytes ≡ line ∷ [] → 1024 < length line → first_said (lines_of bytes) ≡ Err 5
said_of bytes line e h = ap first_said e ∙ long_said line h

no_lf_cut : (n : ℕ) (bytes line : List ℕ) → n < length bytes → HasNoLf line → (bytes ≡ line) ⊎ (bytes ≡ line ++ 10 ∷ []) → HasNoLf (take n bytes)
no_lf_cut n bytes line lt h (inl e) = subst (λ t. HasNoLf (take n t)) (sym e) (no_lf_front n line h)
no_lf_cut n bytes line lt h (inr e) =
    let size = length-append line (10 ∷ []) in
    let same : length bytes ≡ length (line ++ 10 ∷ []) = ap length e in
    subst HasNoLf (sym (ap (take n) e ∙ take-append-le n line (10 ∷ []) (omega arith))) (no_lf_front n line h)

long_whole : (n : ℕ) (bytes line : List ℕ) → 1025 < n → n < length bytes → HasNoLf line → (bytes ≡ line) ⊎ (bytes ≡ line ++ 10 ∷ []) → first_said (lines_of bytes) ≡ Err 5
long_whole n bytes line most lt h (inl e) = said_of bytes bytes (lines_last bytes (omega arith) (subst HasNoLf (sym e) h)) (omega arith)
long_whole n bytes line most lt h (inr e) =
    let size = length-append line (10 ∷ []) in
    let same : length bytes ≡ length (line ++ 10 ∷ []) = ap length e in
    let cr = shorter_by_cr line in
    said_of bytes (without_cr line) (ap lines_of e ∙ lf_line line h) (omega arith)

said_where : (n : ℕ) (bytes : List ℕ) → 1025 < n → IsOneLine bytes → (length bytes ≤ n) ⊎ (n < length bytes) → first_said (lines_of (take n bytes)) ≡ first_said (lines_of bytes)
said_where n bytes most one (inl le) = ap (λ t. first_said (lines_of t)) (take_all n bytes le)
said_where n bytes most one (inr lt) =
    let size = length-take-le n bytes (omega arith) in
    said_of (take n bytes) (take n bytes) (lines_last (take n bytes) (omega arith) (no_lf_cut n bytes one.0 lt one.1 one.2)) (omega arith)
    ∙ sym (long_whole n bytes one.0 most lt one.1 one.2)

pub said_by_front : (n : ℕ) (bytes : List ℕ) → 1025 < n → IsOneLine bytes → first_said (lines_of (take n bytes)) ≡ first_said (lines_of bytes)
said_by_front n bytes most one = said_where n bytes most one (grind arith)

-- ---- one byte more of a line of which no more than n are kept

pub kept_more : (n : ℕ) (front bytes : List ℕ) (c : ℕ) → front ≡ take n bytes → length front < n → front ++ c ∷ [] ≡ take n (bytes ++ c ∷ [])
kept_more n front bytes c e lt =
    let size = length-take n bytes in
    let same : length front ≡ length (take n bytes) = ap length e in
    let more = length-append bytes (c ∷ []) in
    ap (λ (t : List ℕ). t ++ c ∷ []) (e ∙ take_all n bytes (omega arith)) ∙ sym (take_all n (bytes ++ c ∷ []) (omega arith))

pub kept_full : (n : ℕ) (front bytes : List ℕ) (c : ℕ) → front ≡ take n bytes → length front ≡ n → front ≡ take n (bytes ++ c ∷ [])
kept_full n front bytes c e full =
    let size = length-take n bytes in
    let same : length front ≡ length (take n bytes) = ap length e in
    e ∙ sym (take-append-le n bytes (c ∷ []) (omega arith))

-- ---- a piece of a text, byte by byte

pub piece_at : (text piece rest : List ℕ) (i : ℕ) → i < length piece → ((text ++ take i piece) ++ get_or piece i 0 ∷ []) ++ (drop (suc i) piece ++ rest) ≡ (text ++ piece) ++ rest
piece_at text piece rest i lt =
    append_assoc (text ++ take i piece) (get_or piece i 0 ∷ []) (drop (suc i) piece ++ rest)
    ∙ append_assoc text (take i piece) (get_or piece i 0 ∷ (drop (suc i) piece ++ rest))
    ∙ ap (λ (t : List ℕ). text ++ t)
    (sym (append_assoc (take i piece) (get_or piece i 0 ∷ drop (suc i) piece) rest)
    ∙ ap (λ (t : List ℕ). t ++ rest) (ap (λ (t : List ℕ). take i piece ++ t) (sym (drop-cons piece i 0 lt)) ∙ take-append-drop i piece))
    ∙ sym (append_assoc text piece rest)

pub piece_more : (text piece : List ℕ) (i : ℕ) → i < length piece → (text ++ take i piece) ++ get_or piece i 0 ∷ [] ≡ text ++ take (i + 1) piece
piece_more text piece i lt =
    append_assoc text (take i piece) (get_or piece i 0 ∷ []) ∙ ap (λ (t : List ℕ). text ++ t) (sym (take_more piece i 0 lt))

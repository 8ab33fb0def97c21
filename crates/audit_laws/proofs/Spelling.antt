-- Words with a space before each are cut at these spaces again.
use Rattle.std.proofs.Common.{◌≡◌, ℕ, Bool, true, false, eqb, List, [], ◌∷◌, ◌++◌, refl, ap, ◌∙◌, arith, append-nil, append_assoc}
use Rattle.std.proofs.lemmas.Bool.{and_parts}
use Rattle.std.specs.List.{list_all}
use Rattle.std.proofs.lemmas.Bool.Decides.{nat_tests}
use Rattle.text_lines.specs.Text.{with_first, is_between}
use Rattle.trace_audit.specs.Texts.{pieces_of, words_of}
use Rattle.trace_audit.specs.Judgements.{is_printable}

-- a byte of a word: printable, and no space
abbrev pub is_in_word : ℕ → Bool
is_in_word c = is_between 33 126 c

abbrev pub IsWord : List ℕ → Type 0
IsWord w = list_all is_in_word w ≡ true

-- words, each behind a space
abbrev pub spaced : List (List ℕ) → List ℕ
spaced [] = []
spaced (w ∷ ws) = 32 ∷ (w ++ spaced ws)

abbrev pub AreWords : List (List ℕ) → Type 0
AreWords [] = Unit {0}
AreWords (w ∷ ws) = IsWord w × AreWords ws

no_space : (c : ℕ) → is_in_word c ≡ true → eqb c 32 ≡ false
no_space c h = grind (arith, nat_tests)

piece_space : (cs : List ℕ) → words_of (32 ∷ cs) ≡ [] ∷ words_of cs
unfolding pieces_of
piece_space cs = refl

piece_more : (c : ℕ) (cs : List ℕ) → is_in_word c ≡ true → words_of (c ∷ cs) ≡ with_first c (words_of cs)
unfolding pieces_of
piece_more c cs h = rw (no_space c h) refl

piece_none : words_of [] ≡ [] ∷ []
unfolding pieces_of
piece_none = refl

-- a word and what follows at a space
word_then : (w rest : List ℕ) → IsWord w → words_of (w ++ 32 ∷ rest) ≡ w ∷ words_of rest
word_then [] rest h = piece_space rest
word_then (c ∷ w) rest h = let p = and_parts (is_in_word c) (list_all is_in_word w) h in piece_more c (w ++ 32 ∷ rest) p.0 ∙ ap (with_first c) (word_then w rest p.1)

word_last : (w : List ℕ) → IsWord w → words_of w ≡ w ∷ []
word_last [] h = piece_none
word_last (c ∷ w) h = let p = and_parts (is_in_word c) (list_all is_in_word w) h in piece_more c w p.0 ∙ ap (with_first c) (word_last w p.1)

-- words are cut where they were joined
pub words_back : (w : List ℕ) (ws : List (List ℕ)) → IsWord w → AreWords ws → words_of (w ++ spaced ws) ≡ w ∷ ws
words_back w [] h hs = ap words_of (append-nil w) ∙ word_last w h
words_back w (v ∷ ws) h hs = word_then w (v ++ spaced ws) h ∙ ap (λ rest. w ∷ rest) (words_back v ws hs.0 hs.1)

-- and a text behind them at its own spaces
pub words_then_text : (w : List ℕ) (ws : List (List ℕ)) (text : List ℕ) → IsWord w → AreWords ws → words_of (w ++ (spaced ws ++ 32 ∷ text)) ≡ w ∷ (ws ++ words_of text)
words_then_text w [] text h hs = word_then w text h
words_then_text w (v ∷ ws) text h hs = ap words_of (ap (λ r. w ++ 32 ∷ r) (append_assoc v (spaced ws) (32 ∷ text))) ∙ word_then w (v ++ (spaced ws ++ 32 ∷ text)) h ∙ ap (λ rest. w ∷ rest) (words_then_text v ws text hs.0 hs.1)

-- ## bytes of words

pub all_weaker : (p q : ℕ → Bool) → ((c : ℕ) → p c ≡ true → q c ≡ true) → (xs : List ℕ) → list_all p xs ≡ true → list_all q xs ≡ true
all_weaker p q so [] h = refl
all_weaker p q so (x ∷ xs) h = let two = and_parts (p x) (list_all p xs) h in rw (so x two.0, all_weaker p q so xs two.1) refl

pub all_joined : (p : ℕ → Bool) (xs ys : List ℕ) → list_all p xs ≡ true → list_all p ys ≡ true → list_all p (xs ++ ys) ≡ true
all_joined p [] ys h k = k
all_joined p (x ∷ xs) ys h k = let two = and_parts (p x) (list_all p xs) h in rw (two.0, all_joined p xs ys two.1 k) refl

word_printable : (c : ℕ) → is_in_word c ≡ true → is_printable c ≡ true
word_printable c h = grind (arith, nat_tests)

pub spaced_printable : (ws : List (List ℕ)) → AreWords ws → list_all is_printable (spaced ws) ≡ true
spaced_printable [] h = refl
spaced_printable (w ∷ ws) h = all_joined is_printable w (spaced ws) (all_weaker is_in_word is_printable word_printable w h.0) (spaced_printable ws h.1)

pub words_printable : (w : List ℕ) (ws : List (List ℕ)) → IsWord w → AreWords ws → list_all is_printable (w ++ spaced ws) ≡ true
words_printable w ws h hs = all_joined is_printable w (spaced ws) (all_weaker is_in_word is_printable word_printable w h) (spaced_printable ws hs)

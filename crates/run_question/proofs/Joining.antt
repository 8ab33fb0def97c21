-- The words of a line, joined one after another.
use Rattle.std.proofs.Common.{◌≡◌, ℕ, ◌<◌, List, [], ◌∷◌, ◌++◌, length, refl, ap, ◌∙◌, sym, arith}
use Rattle.std.proofs.lemmas.List.{append_assoc, append-nil}
use Rattle.run_script.specs.Words.{word_then}
use Rattle.run_script.proofs.Wording.{no_more}
use Rattle.run_question.specs.Reading.{joined, spaced}

spaced_nil : spaced [] ≡ []
unfolding spaced
spaced_nil = refl

spaced_more : (word : List ℕ) (rest : List (List ℕ)) → spaced (word ∷ rest) ≡ (32 ∷ []) ++ (word ++ spaced rest)
unfolding spaced
spaced_more word rest = refl

first_and : (word : List ℕ) (all behind : List (List ℕ)) → all ≡ word_then word behind → (word ≡ [] → behind ≡ []) → joined all ≡ word ++ spaced behind
first_and [] all behind e none = ap joined e ∙ sym (ap spaced (none refl) ∙ spaced_nil)
first_and (c ∷ cs) all behind e none = ap joined e

-- the first word
pub begins : (empty text word : List ℕ) (all behind : List (List ℕ)) → empty ≡ [] → text ≡ empty ++ word → all ≡ word_then word behind → (word ≡ [] → behind ≡ []) → joined all ≡ text ++ spaced behind
begins empty text word all behind b e h none =
    first_and word all behind h none ∙ ap (λ (l : List ℕ). l ++ spaced behind) (sym (e ∙ ap (λ (l : List ℕ). l ++ word) b))

-- a word more
pub goes_on : (whole text with_space more word : List ℕ) (all behind : List (List ℕ)) → whole ≡ text ++ spaced all → all ≡ word_then word behind → 0 < length word → with_space ≡ text ++ 32 ∷ [] → more ≡ with_space ++ word → whole ≡ more ++ spaced behind
goes_on whole text with_space more [] all behind w h lt s m = absurd (omega arith)
goes_on whole text with_space more (c ∷ cs) all behind w h lt s m =
    w ∙ ap (λ (l : List (List ℕ)). text ++ spaced l) h ∙ ap (λ (l : List ℕ). text ++ l) (spaced_more (c ∷ cs) behind)
    ∙ sym (append_assoc text (32 ∷ []) ((c ∷ cs) ++ spaced behind))
    ∙ sym (append_assoc (text ++ 32 ∷ []) (c ∷ cs) (spaced behind))
    ∙ ap (λ (l : List ℕ). l ++ spaced behind) (sym (m ∙ ap (λ (l : List ℕ). l ++ (c ∷ cs)) s))

-- no word more
pub ends : (whole text word : List ℕ) (all behind : List (List ℕ)) → whole ≡ text ++ spaced all → all ≡ word_then word behind → (word ≡ [] → behind ≡ []) → length word ≡ 0 → text ≡ whole
ends whole text word all behind w h none z =
    sym (w ∙ ap (λ (l : List (List ℕ)). text ++ spaced l) (no_more all word behind h none z) ∙ ap (λ (l : List ℕ). text ++ l) spaced_nil ∙ append-nil text)

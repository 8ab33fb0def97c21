-- The words of a line, from the left.
use Rattle.std.proofs.Common.{◌≡◌, ℕ, suc, zero, ◌+◌, ◌<◌, ◌≤◌, List, [], ◌∷◌, ◌++◌, length, get_or, take, drop, refl, ap, ◌∙◌, sym, arith, Bool, true, false, ◌==◌}
use Rattle.text_lines.specs.Text.{with_first}
use Rattle.run_script.specs.Words.{HasNoBlank, is_blank, ends_word, words, word_then}
use Rattle.text_lines.proofs.Digits.{cell}

pub words_nil : words [] ≡ []
unfolding words
words_nil = refl

pub blank_first : (c : ℕ) (cs : List ℕ) → is_blank c ≡ true → words (c ∷ cs) ≡ words cs
unfolding words
blank_first c cs h = rw h refl

word_last : (c : ℕ) (cs : List ℕ) → is_blank c ≡ false → ends_word cs ≡ true → words (c ∷ cs) ≡ (c ∷ []) ∷ words cs
unfolding words
word_last c cs h k = rw (h, k) refl

word_goes_on : (c : ℕ) (cs : List ℕ) → is_blank c ≡ false → ends_word cs ≡ false → words (c ∷ cs) ≡ with_first c (words cs)
unfolding words
word_goes_on c cs h k = rw (h, k) refl

pub skips : (s : List ℕ) (i : ℕ) → i < length s → is_blank (get_or s i 0) ≡ true → words (drop i s) ≡ words (drop (i + 1) s)
skips s i lt h = ap words (cell s i lt) ∙ blank_first (get_or s i 0) (drop (i + 1) s) h

-- a word of k + 1 bytes
word_of : (c : ℕ) (cs : List ℕ) (k : ℕ) → is_blank c ≡ false → k ≤ length cs → ((j : ℕ) → j < k → is_blank (get_or cs j 0) ≡ false) → (k < length cs → is_blank (get_or cs k 0) ≡ true) → words (c ∷ cs) ≡ (c ∷ take k cs) ∷ words (drop k cs)
word_of c [] zero h le before found = word_last c [] h refl
word_of c (d ∷ ds) zero h le before found = word_last c (d ∷ ds) h (found (omega arith))
word_of c [] (suc k) h le before found = absurd (omega arith)
word_of c (d ∷ ds) (suc k) h le before found =
    word_goes_on c (d ∷ ds) h (before 0 (omega arith))
    ∙ ap (with_first c) (word_of d ds k (before 0 (omega arith)) (omega arith) (λ j lt. before (suc j) (omega arith)) (λ lt. found (omega arith)))

apart : {A : Type 0} → (b : Bool) → b ≡ true → b ≡ false → A
apart b h k = absurd (let e : true ≡ false = sym h ∙ k in cc)

-- a text that begins with a word, or is empty, cut behind that word
pub cuts : (s : List ℕ) (k : ℕ) → (0 < length s → is_blank (get_or s 0 0) ≡ false) → k ≤ length s → ((j : ℕ) → j < k → is_blank (get_or s j 0) ≡ false) → (k < length s → is_blank (get_or s k 0) ≡ true) → words s ≡ word_then (take k s) (words (drop k s))
cuts [] zero start le before found = words_nil
cuts [] (suc k) start le before found = absurd (omega arith)
cuts (c ∷ cs) zero start le before found = apart (is_blank c) (found (omega arith)) (start (omega arith))
cuts (c ∷ cs) (suc k) start le before found = word_of c cs k (start (omega arith)) (omega arith) (λ j lt. before (suc j) (omega arith)) (λ lt. found (omega arith))

pub cuts_none : (s : List ℕ) (k : ℕ) → (0 < length s → is_blank (get_or s 0 0) ≡ false) → (k < length s → is_blank (get_or s k 0) ≡ true) → take k s ≡ [] → words (drop k s) ≡ []
cuts_none [] zero start found e = words_nil
cuts_none [] (suc k) start found e = words_nil
cuts_none (c ∷ cs) zero start found e = apart (is_blank c) (found (omega arith)) (start (omega arith))
cuts_none (c ∷ cs) (suc k) start found e = absurd (cc)

-- ---- a word and what stands behind it

pub word_and : (word behind : List ℕ) → 0 < length word → HasNoBlank word → ends_word behind ≡ true → words (word ++ behind) ≡ word ∷ words behind
word_and [] behind lt free h = absurd (omega arith)
word_and (c ∷ []) behind lt free h = word_last c behind (free 0 lt) h
word_and (c ∷ d ∷ ds) behind lt free h =
    word_goes_on c (d ∷ (ds ++ behind)) (free 0 lt) (free 1 (omega arith))
    ∙ ap (with_first c) (word_and (d ∷ ds) behind (omega arith) (λ k m. free (suc k) (omega arith)) h)

-- ---- words one after another

first_of_two : (w v : List ℕ) (ws more : List (List ℕ)) → (w ≡ [] → ws ≡ []) → ws ≡ word_then v more → 0 < length v → 0 < length w
first_of_two (c ∷ cs) v ws more none e lt = omega arith
first_of_two [] [] ws more none e lt = absurd (omega arith)
first_of_two [] (d ∷ ds) ws more none e lt = absurd (let same : (d ∷ ds) ∷ more ≡ [] = sym e ∙ none refl in cc)

a_word : (w : List ℕ) (all behind : List (List ℕ)) → all ≡ word_then w behind → 0 < length w → all ≡ w ∷ behind
a_word [] all behind e lt = absurd (omega arith)
a_word (c ∷ cs) all behind e lt = e

pub five_words : (all : List (List ℕ)) (v w x y z : List ℕ) (b1 b2 b3 b4 b5 : List (List ℕ)) →
    all ≡ word_then v b1 → (v ≡ [] → b1 ≡ []) → b1 ≡ word_then w b2 → (w ≡ [] → b2 ≡ []) → b2 ≡ word_then x b3 → (x ≡ [] → b3 ≡ []) →
    b3 ≡ word_then y b4 → (y ≡ [] → b4 ≡ []) → b4 ≡ word_then z b5 → 0 < length z → all ≡ v ∷ w ∷ x ∷ y ∷ z ∷ b5
five_words all v w x y z b1 b2 b3 b4 b5 e1 n1 e2 n2 e3 n3 e4 n4 e5 fifth =
    let fourth = first_of_two y z b4 b5 n4 e5 fifth in
    let third = first_of_two x y b3 b4 n3 e4 fourth in
    let second = first_of_two w x b2 b3 n2 e3 third in
    let first = first_of_two v w b1 b2 n1 e2 second in
    a_word v all b1 e1 first
    ∙ ap (λ (l : List (List ℕ)). v ∷ l) (a_word w b1 b2 e2 second
    ∙ ap (λ (l : List (List ℕ)). w ∷ l) (a_word x b2 b3 e3 third
    ∙ ap (λ (l : List (List ℕ)). x ∷ l) (a_word y b3 b4 e4 fourth
    ∙ ap (λ (l : List (List ℕ)). y ∷ l) (a_word z b4 b5 e5 fifth))))

pub not_empty : (n : ℕ) (b : Bool) → b ≡ (n == 0) → b ≡ false → 0 < n
not_empty zero b e h = absurd (let same : true ≡ false = sym e ∙ h in cc)
not_empty (suc n) b e h = omega arith

pub empty : (n : ℕ) (b : Bool) → b ≡ (n == 0) → b ≡ true → n ≡ 0
empty zero b e h = refl
empty (suc n) b e h = absurd (let same : false ≡ true = (grind arith) in cc)

pub no_more : (all : List (List ℕ)) (w : List ℕ) (behind : List (List ℕ)) → all ≡ word_then w behind → (w ≡ [] → behind ≡ []) → length w ≡ 0 → all ≡ []
no_more all [] behind e none h = e
no_more all (c ∷ cs) behind e none h = absurd (omega (arith, h))

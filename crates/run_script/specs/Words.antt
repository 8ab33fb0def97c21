-- The words of a line of a script. A line is a list of bytes.
use Rattle.std.specs.Prelude.{ℕ, ◌≡◌, ◌<◌, Bool, true, false, nat_eq, nat_le, ◌&&◌, ◌||◌, if◌then◌else◌, List, [], ◌∷◌, ◌++◌, length, slice_index}
use Rattle.text_lines.specs.Text.{with_first}

-- a byte that a line may have: a tab, or 32 to 126
abbrev pub is_allowed : ℕ → Bool
is_allowed c = nat_eq c 9 || (nat_le 32 c && nat_le c 126)

-- a space or a tab
abbrev pub is_blank : ℕ → Bool
is_blank c = nat_eq c 32 || nat_eq c 9

-- no word goes on with this text
abbrev pub ends_word : List ℕ → Bool
ends_word [] = true
ends_word (c ∷ cs) = is_blank c

-- the pieces between blanks
unfoldable pub words : List ℕ → List (List ℕ)
words [] = []
words (c ∷ cs) =
    if is_blank c then words cs
    else if ends_word cs then (c ∷ []) ∷ words cs
    else with_first c (words cs)

-- ---- how words are read: blanks are skipped, and a word goes on to a blank or to the end

abbrev pub BlanksAreSkipped : Type 0
BlanksAreSkipped = (c : ℕ) (text : List ℕ) → is_blank c ≡ true → words (c ∷ text) ≡ words text

abbrev pub HasNoBlank : List ℕ → Type 0
HasNoBlank word = (k : ℕ) → k < length word → is_blank (slice_index word k) ≡ false

abbrev pub WordsEndAtBlanks : Type 0
WordsEndAtBlanks = (word behind : List ℕ) → 0 < length word → HasNoBlank word
    → ends_word behind ≡ true → words (word ++ behind) ≡ word ∷ words behind

abbrev pub NothingHasNoWord : Type 0
NothingHasNoWord = words [] ≡ []

-- a word, if there is one, and the words behind it
abbrev pub word_then : List ℕ → List (List ℕ) → List (List ℕ)
word_then [] behind = []
word_then (c ∷ cs) behind = (c ∷ cs) ∷ behind

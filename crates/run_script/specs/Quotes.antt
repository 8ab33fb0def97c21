-- Texts in a line of a script: a text goes on from a quote that begins a word to the end of the line.
use Rattle.std.specs.Prelude.{ℕ, Bool, true, false, ◌==◌, ◌&&◌, ◌||◌, if◌then◌else◌, List, [], ◌∷◌, Option, Some, None}
use Rattle.std.specs.List.{list_all}
use Rattle.run_script.specs.Words.{is_blank}

-- the bytes before the first word that begins with a quote (34); the first argument says whether a word may
-- begin here
unfoldable pub before_text : Bool → List ℕ → List ℕ
before_text begins [] = []
before_text begins (c ∷ cs) = if begins && (c == 34) then [] else c ∷ before_text (is_blank c) cs

-- that word and all that follows it; nothing if there is no such word
unfoldable pub text_from : Bool → List ℕ → List ℕ
text_from begins [] = []
text_from begins (c ∷ cs) = if begins && (c == 34) then c ∷ cs else text_from (is_blank c) cs

-- ---- the bytes of a text

-- what a byte after a `\` (92) stands for: itself, LF, CR, tab or 0
abbrev pub unescaped : ℕ → Option ℕ
unescaped c =
    if (c == 34) || (c == 92) then Some c
    else if c == 110 then Some 10
    else if c == 114 then Some 13
    else if c == 116 then Some 9
    else if c == 48 then Some 0
    else None

abbrev pub with_byte : Option ℕ → Option (List ℕ) → Option (List ℕ)
with_byte None bytes = None
with_byte (Some byte) None = None
with_byte (Some byte) (Some bytes) = Some (byte ∷ bytes)

-- the bytes up to the closing quote, after which only blanks may come; the first argument says whether a `\`
-- came just before
unfoldable pub bytes_to_quote : Bool → List ℕ → Option (List ℕ)
bytes_to_quote escaped [] = None
bytes_to_quote true (c ∷ cs) = with_byte (unescaped c) (bytes_to_quote false cs)
bytes_to_quote false (c ∷ cs) =
    if c == 34 then (if list_all is_blank cs then Some [] else None)
    else if c == 92 then bytes_to_quote true cs
    else with_byte (Some c) (bytes_to_quote false cs)

abbrev pub one_or_more : Option (List ℕ) → Option (List ℕ)
one_or_more None = None
one_or_more (Some []) = None
one_or_more (Some (byte ∷ bytes)) = Some (byte ∷ bytes)

-- the bytes of a text: one or more between its quotes
abbrev pub bytes_of : List ℕ → Option (List ℕ)
bytes_of [] = None
bytes_of (quote ∷ rest) = one_or_more (bytes_to_quote false rest)

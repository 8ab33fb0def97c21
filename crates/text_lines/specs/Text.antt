-- The lines of a text, and the numbers that pieces of text spell. A text is a list of bytes.
use Rattle.std.specs.Prelude.{◌≡◌, ◌<◌, ℕ, ◌+◌, ◌-◌, ◌*◌, ◌^◌, Bool, false, nat_eq, nat_lt, nat_le, if◌then◌else◌, List, [], ◌∷◌, ◌++◌, length, slice_index, Option, Some, None, ◌&&◌, ◌||◌}
use Rattle.std.specs.List.{list_all}

-- Lines.

-- the lines with a byte put in front of the first one; if there are no lines, the byte is a line by itself
abbrev pub with_first : ℕ → List (List ℕ) → List (List ℕ)
with_first c [] = (c ∷ []) ∷ []
with_first c (l ∷ ls) = (c ∷ l) ∷ ls

abbrev pub starts_with : ℕ → List ℕ → Bool
starts_with c [] = false
starts_with c (d ∷ ds) = nat_eq c d

-- An LF (10) ends a line, and a CR (13) right before it is dropped. The last line may lack its LF.
unfoldable pub lines_of : List ℕ → List (List ℕ)
lines_of [] = []
lines_of (c ∷ cs) =
    if nat_eq c 10 then [] ∷ lines_of cs
    else if nat_eq c 13 && starts_with 10 cs then lines_of cs
    else with_first c (lines_of cs)

-- a piece of text without an LF
abbrev pub HasNoLf : List ℕ → Type 0
HasNoLf piece = (k : ℕ) → k < length piece → slice_index piece k ≡ 10 → ⊥

-- a piece of text without the CR at its end, if it has one
unfoldable pub without_cr : List ℕ → List ℕ
without_cr [] = []
without_cr (c ∷ []) = if nat_eq c 13 then [] else c ∷ []
without_cr (c ∷ d ∷ ds) = c ∷ without_cr (d ∷ ds)

-- Where lines end: each at an LF, and the last one at the latest at the end of the text.
abbrev pub FirstLineEnds : Type 0
FirstLineEnds = (line rest : List ℕ) → HasNoLf line → lines_of (line ++ 10 ∷ rest) ≡ without_cr line ∷ lines_of rest

abbrev pub LastLineEnds : Type 0
LastLineEnds = (line : List ℕ) → 0 < length line → HasNoLf line → lines_of line ≡ line ∷ []

abbrev pub NothingHasNoLine : Type 0
NothingHasNoLine = lines_of [] ≡ []

-- Numbers.

abbrev pub is_between : ℕ → ℕ → ℕ → Bool
is_between low top c = nat_le low c && nat_le c top

-- 0 to 9
abbrev pub is_digit : ℕ → Bool
is_digit c = is_between 48 57 c

-- 0 to 9, a to f, A to F
abbrev pub is_hex : ℕ → Bool
is_hex c = is_digit c || is_between 97 102 c || is_between 65 70 c

-- the value of a digit
abbrev pub digit : ℕ → ℕ
digit c = if nat_le c 57 then c - 48 else if nat_le c 70 then c - 55 else c - 87

-- the value of digits in a base: each digit times the power of the base that belongs to its position
unfoldable pub value_in : ℕ → List ℕ → ℕ
value_in base [] = 0
value_in base (c ∷ cs) = digit c * base ^ length cs + value_in base cs

-- one or more digits with a value of at most max
abbrev pub number_in : (ℕ → Bool) → ℕ → List ℕ → ℕ → Option ℕ
number_in is_digit base piece max = if nat_lt 0 (length piece) && list_all is_digit piece && nat_le (value_in base piece) max then Some (value_in base piece) else None

-- a decimal number of at most max
abbrev pub number_of : List ℕ → ℕ → Option ℕ
number_of piece max = number_in is_digit 10 piece max

-- a hexadecimal number below 2^32
abbrev pub hex_number_of : List ℕ → Option ℕ
hex_number_of piece = number_in is_hex 16 piece (2 ^ 32 - 1)

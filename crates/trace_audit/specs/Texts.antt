-- The lines of a text, the words of a line, and words as numbers. A text is a list of bytes.
use Rattle.std.specs.Prelude.{ℕ, ◌-◌, ◌^◌, Bool, ◌==◌, ◌&&◌, nat_lt, if◌then◌else◌, List, [], ◌∷◌, length, slice_index, Option, None}
use Rattle.text_lines.specs.Text.{with_first, number_of}

-- An LF (10) ends a line. The last line may lack its LF. (A CR is a byte of its line.)
unfoldable pub lines_of : List ℕ → List (List ℕ)
lines_of [] = []
lines_of (c ∷ cs) = if c == 10 then [] ∷ lines_of cs else with_first c (lines_of cs)

-- the pieces between single bytes of one kind
unfoldable pub pieces_of : ℕ → List ℕ → List (List ℕ)
pieces_of end [] = [] ∷ []
pieces_of end (c ∷ cs) = if c == end then [] ∷ pieces_of end cs else with_first c (pieces_of end cs)

-- the words of a line, one space (32) between two
abbrev pub words_of : List ℕ → List (List ℕ)
words_of line = pieces_of 32 line

-- ## numbers

-- a 0 before another digit
abbrev pub has_leading_zero : List ℕ → Bool
has_leading_zero word = nat_lt 1 (length word) && slice_index word 0 == 48

-- a decimal number without leading zeros, of at most max
unfoldable pub plain_number : ℕ → List ℕ → Option ℕ
plain_number max word = if has_leading_zero word then None else number_of word max

abbrev pub most_number : ℕ
most_number = 2 ^ 32 - 1

abbrev pub most_time : ℕ
most_time = 2 ^ 64 - 1

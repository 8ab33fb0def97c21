-- The bytes that a word of values says: numbers and ranges with commas between (docs/EXPLORE.md, Question).
use Rattle.std.specs.Prelude.{ℕ, ◌+◌, ◌-◌, nat_eq, nat_lt, nat_le, if◌then◌else◌, List, [], ◌∷◌, ◌++◌, Option, Some, None}
use Rattle.std.specs.List.{list_all, range_with_len}
use Rattle.text_lines.specs.Text.{with_first}
use Rattle.run_script.specs.Statements.{byte_in}

-- the pieces between the marks
unfoldable pub pieces : ℕ → List ℕ → List (List ℕ)
pieces mark [] = [] ∷ []
pieces mark (c ∷ cs) = if nat_eq c mark then [] ∷ pieces mark cs else with_first c (pieces mark cs)

-- the first and the last of a range
abbrev pub ends_of : Option ℕ → Option ℕ → Option (ℕ × ℕ)
ends_of (Some first) (Some last) = if nat_le first last then Some (first, last) else None
ends_of first last = None

-- a number, or two with a dash between
abbrev pub range_of : List (List ℕ) → Option (ℕ × ℕ)
range_of (one ∷ []) = ends_of (byte_in one) (byte_in one)
range_of (first ∷ last ∷ []) = ends_of (byte_in first) (byte_in last)
range_of _ = None

-- with the bytes of a range more, which are above all before
abbrev pub with_range : List ℕ → Option (ℕ × ℕ) → Option (List ℕ)
with_range known None = None
with_range known (Some ends) =
    if list_all (λ v. nat_lt v ends.0) known then Some (known ++ range_with_len ends.0 (ends.1 + 1 - ends.0)) else None

abbrev pub go_on : Option (List ℕ) → (List ℕ → Option (List ℕ)) → Option (List ℕ)
go_on None rest = None
go_on (Some known) rest = rest known

unfoldable pub with_ranges : List ℕ → List (List ℕ) → Option (List ℕ)
with_ranges known [] = Some known
with_ranges known (piece ∷ rest) =
    go_on (with_range known (range_of (pieces 45 piece))) (λ more. with_ranges more rest)

-- in ascending order and none twice
abbrev pub values_in : List ℕ → Option (List ℕ)
values_in word = with_ranges [] (pieces 44 word)

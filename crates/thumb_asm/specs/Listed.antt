-- The lines of a text with their numbers and the addresses of their bytes; which of them are instructions, and
-- which have labels.
use Rattle.std.specs.Prelude.{ℕ, ◌+◌, ◌^◌, ◌<◌, ◌≤◌, ◌≡◌, Bool, false, nat_lt, if◌then◌else◌, List, [], ◌∷◌, length, map, filter, Option, Some, None, Result, Ok, Err, string_bytes}
use Rattle.std.specs.List.{flat_map}
use Rattle.text_lines.specs.Text.{lines_of}
use Rattle.thumb_asm.specs.declared.Cause.{Cause}
use Rattle.thumb_asm.specs.declared.listing.InsnLine.{InsnLine}
use Rattle.thumb_asm.specs.declared.listing.Label.{Label}
use Rattle.thumb_asm.specs.declared.listing.Placed.{Placed as Held}
use Rattle.thumb_asm.specs.declared.listing.PlacedLines.{PlacedLines}
use Rattle.thumb_asm.specs.Chars.{is_name}
use Rattle.thumb_asm.specs.Parts.{parts}
use Rattle.thumb_asm.specs.Syntax.{Shape, is_insn}
use Rattle.thumb_asm.specs.Sizes.{statement_of}
use Rattle.thumb_asm.specs.Meaning.{Names, Env}
use Rattle.thumb_asm.specs.Causes.{line_size, first_cause, labels_from}

-- a line with its number, counted from 1, and the address of its bytes
pub record Placed : Type 0 where
  pub number : ℕ
  pub at : ℕ
  pub text : List ℕ

-- The lines from the one with a number on, after `used` bytes from the base. The first line that would end after
-- 1048576 bytes has no address, and no later line has one. In an accepted text there is no such line
-- (EachLineIsPlaced).
unfoldable pub placed_from : ℕ → ℕ → ℕ → List (List ℕ) → List Placed
placed_from base used number [] = []
placed_from base used number (l ∷ ls) =
    let next = used + line_size (base + used) l in
    if nat_lt 1048576 next then [] else record { number = number; at = base + used; text = l } ∷ placed_from base next (number + 1) ls

abbrev pub placed : ℕ → List (List ℕ) → List Placed
placed base lines = placed_from base 0 1 lines

abbrev pub holds_insn : Result (Option Shape) Cause → Bool
holds_insn (Err c) = false
holds_insn (Ok None) = false
holds_insn (Ok (Some s)) = is_insn s

-- a line whose statement is an instruction
abbrev pub is_instruction : List ℕ → Bool
is_instruction line = holds_insn (statement_of (parts line).statement)

abbrev pub insn_line : Placed → InsnLine
insn_line p = record { number = p.number; at = p.at }

-- the lines that are instructions
abbrev pub insn_lines : List Placed → List InsnLine
insn_lines ps = map insn_line (filter (λ p. is_instruction p.text) ps)

-- the label of a line, if it is a name; in an accepted text each label is one
abbrev pub named_label : ℕ → Option (List ℕ) → Names
named_label at None = []
named_label at (Some name) = if is_name name then (name, at) ∷ [] else []

-- the labels of lines, each with the address of its line
abbrev pub labels_of : List Placed → Names
labels_of ps = flat_map (λ p. named_label p.at (parts p.text).label) ps

-- in an accepted text each line has an address, and each label is listed
abbrev pub EachLineIsPlaced : Type 0
EachLineIsPlaced = (lines : List (List ℕ)) (base : ℕ) (given : Env) → first_cause lines base given ≡ None → map (λ p. p.text) (placed base lines) ≡ lines

abbrev pub EachLabelIsListed : Type 0
EachLabelIsListed = (lines : List (List ℕ)) (base : ℕ) (given : Env) → first_cause lines base given ≡ None → labels_of (placed base lines) ≡ labels_from base lines

-- the same, as the code has them

abbrev pub placed_of : Held → Placed
placed_of p = record { number = p.number; at = p.at; text = p.text.now }

abbrev pub label_of : Label → List ℕ × ℕ
label_of l = (string_bytes l.name, l.at)

abbrev pub labels_in : List Label → Names
labels_in ls = map label_of ls

-- the lines that are left
abbrev pub lines_left : PlacedLines → List Placed
lines_left p = placed_from p.base p.used (p.number + 1) (lines_of p.lines.rest.now)

-- the numbers and addresses of the lines that are left are in range
pub record HaveRoom (p : PlacedLines) : Type 0 where
  pub addresses : p.base + 1048576 < 2 ^ 32
  pub within : p.used ≤ 1048576
  pub numbers : p.number + length p.lines.rest.now < 2 ^ 64

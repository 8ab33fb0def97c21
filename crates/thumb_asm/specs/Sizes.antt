-- The shape of a statement, its size, and why it is refused before any value is known.
use Rattle.std.specs.Prelude.{ℕ, zero, suc, ◌+◌, ◌-◌, ◌*◌, ◌%◌, ◌^◌, Bool, true, false, nat_eq, nat_lt, if◌then◌else◌, List, [], ◌∷◌, length, count_by, Option, Some, None, Result, Ok, Err, ◌&&◌, ◌||◌, not, ℤ, pos, negsuc}
use Rattle.std.specs.List.{list_any}
use Rattle.thumb_insn.specs.declared.Reg.{Reg}
use Rattle.text_lines.specs.Text.{is_between}
use Rattle.thumb_insn.specs.declared.Insn.{Insn}
use Rattle.thumb_insn.specs.declared.Insn.TheVariants as insn
use Rattle.thumb_encode.specs.Codes.{fit_of, insn_size}
use Rattle.thumb_encode.specs.declared.Fit.{Fit}
use Rattle.thumb_encode.specs.declared.Fit.TheVariants as fit
use Rattle.thumb_asm.specs.declared.Cause.{Cause}
use Rattle.thumb_asm.specs.declared.Cause.TheVariants as cause
use Rattle.thumb_asm.specs.declared.Mnemonic.{Mnemonic}
use Rattle.thumb_asm.specs.Chars.{is_nil}
use Rattle.thumb_asm.specs.Parts.{first_word, behind_word, operand_pieces}
use Rattle.thumb_asm.specs.Operands.{Operand, operands, signed, expression, Expr}
use Rattle.thumb_asm.specs.Syntax.{Shape, Fixed, Filled, Within, Aimed, Near, Misplaced, Listed, Block, Data, Text, Zeros, Padding, mnemonic, shaped, is_high}

-- A list of registers, as ranges.

-- a register is in a range; a falling range has no registers
abbrev pub is_in : ℕ × ℕ → ℕ → Bool
is_in range r = is_between range.0 range.1 r

abbrev pub is_listed : List (ℕ × ℕ) → ℕ → Bool
is_listed rs r = list_any (λ range. is_in range r) rs

-- a register is in the list more than once
abbrev pub is_double : List (ℕ × ℕ) → ℕ → Bool
is_double rs r = nat_lt 1 (count_by (λ range. is_in range r) rs)

-- a register is in the list, or is an end of a falling range
abbrev pub is_named : List (ℕ × ℕ) → ℕ → Bool
is_named rs r = list_any (λ range. is_in range r || nat_eq r range.0 || nat_eq r range.1) rs

-- one of the numbers below k passes a test
unfoldable pub any_below : (ℕ → Bool) → ℕ → Bool
any_below p zero = false
any_below p (suc k) = any_below p k || p k

-- the registers below k as a mask
unfoldable pub mask_below : List (ℕ × ℕ) → ℕ → ℕ
mask_below rs zero = 0
mask_below rs (suc k) = mask_below rs k + (if is_listed rs k then 2 ^ k else 0)

-- the low registers of a list as a mask
abbrev pub mask_of : List (ℕ × ℕ) → ℕ
mask_of rs = mask_below rs 8

-- a register of the list is high and is not this one
abbrev pub is_stray : List (ℕ × ℕ) → ℕ → ℕ → Bool
is_stray rs extra r = is_high r && not (nat_eq r extra) && is_named rs r

-- a list has a register that it cannot have
abbrev pub has_stray : ℕ → List (ℕ × ℕ) → Bool
has_stray extra rs = any_below (is_stray rs extra) 16

abbrev pub falls : ℕ × ℕ → Bool
falls range = nat_lt range.1 range.0

abbrev pub is_empty : List (ℕ × ℕ) → Bool
is_empty [] = true
is_empty (range ∷ rs) = false

abbrev pub is_no_list : List (ℕ × ℕ) → Bool
is_no_list rs = is_empty rs || list_any falls rs || any_below (is_double rs) 16

-- The `!` is wrong. `ldm` needs it exactly if its base is not in the list. `stm` always needs it, and its base must
-- not be in the list, or must be the lowest register there.
abbrev pub is_raised_wrong : ℕ → Bool → Bool → List (ℕ × ℕ) → Bool
is_raised_wrong n raised true rs = if raised then is_listed rs n else not (is_listed rs n)
is_raised_wrong n raised false rs = not raised || (is_listed rs n && any_below (is_listed rs) n)

-- the only high register that the list of `push` or of `pop` can have: LR or PC
abbrev pub extra_of : Bool → ℕ
extra_of loads = if loads then 15 else 14

-- The size of a statement.

abbrev pub list_insn : Bool → List (ℕ × ℕ) → Insn
list_insn true rs = insn.Pop (mask_of rs) (is_listed rs 15)
list_insn false rs = insn.Push (mask_of rs) (is_listed rs 14)

abbrev pub block_insn : Reg → Bool → ℕ → Insn
block_insn n true mask = insn.Ldm n mask
block_insn n false mask = insn.Stm n mask

-- a number as a natural number; 0 if it is negative or missing
abbrev pub natural_part : Option ℤ → ℕ
natural_part None = 0
natural_part (Some (pos n)) = n
natural_part (Some (negsuc n)) = 0

-- zero bytes up to a multiple of 2 ^ k
abbrev pub padding : ℕ → ℕ → ℕ
padding at k = (2 ^ k - at % 2 ^ k) % 2 ^ k

-- how many bytes a statement takes at an address
unfoldable pub shape_size : ℕ → Shape → ℕ
shape_size at (Fixed i) = insn_size i
shape_size at (Filled e i) = insn_size (i 0)
shape_size at (Within low top e i) = insn_size (i 0)
shape_size at (Aimed e i) = insn_size (i (pos 0))
shape_size at (Near e i) = insn_size (i 0)
shape_size at Misplaced = 0
shape_size at (Listed loads rs) = 2
shape_size at (Block n raised loads rs) = 2
shape_size at (Data k es) = k * length es
shape_size at (Text text) = length text
shape_size at (Zeros e) = natural_part (signed e)
shape_size at (Padding e) = padding at (natural_part (signed e))

-- the row of an instruction does not allow its registers
abbrev pub is_register_fit : Option Fit → Bool
is_register_fit None = false
is_register_fit (Some fit.Register) = true
is_register_fit (Some fit.Offset) = false
is_register_fit (Some fit.Align) = false

unfoldable pub has_bad_register : Shape → Bool
has_bad_register (Fixed i) = is_register_fit (fit_of i)
has_bad_register (Filled e i) = is_register_fit (fit_of (i 0))
has_bad_register (Within low top e i) = is_register_fit (fit_of (i 0))
has_bad_register (Aimed e i) = false
has_bad_register (Near e i) = is_register_fit (fit_of (i 0))
has_bad_register Misplaced = true
has_bad_register (Listed loads rs) = has_stray (extra_of loads) rs
has_bad_register (Block n raised loads rs) = is_high n.number || has_stray 0 rs
has_bad_register s = false

abbrev pub is_no_expr : Option Expr → Bool
is_no_expr None = true
is_no_expr (Some e) = false

abbrev pub is_no_number : Option ℤ → Bool
is_no_number None = true
is_no_number (Some z) = false

unfoldable pub has_bad_number : Shape → Bool
has_bad_number (Filled e i) = is_no_expr (expression e)
has_bad_number (Within low top e i) = is_no_expr (expression e)
has_bad_number (Aimed e i) = is_no_expr (expression e)
has_bad_number (Near e i) = is_no_expr (expression e)
has_bad_number (Data k es) = list_any (λ e. is_no_expr (expression e)) es
has_bad_number (Zeros e) = is_no_number (signed e)
has_bad_number (Padding e) = is_no_number (signed e)
has_bad_number s = false

unfoldable pub has_bad_list : Shape → Bool
has_bad_list (Listed loads rs) = is_no_list rs
has_bad_list (Block n raised loads rs) = is_no_list rs || is_raised_wrong n.number raised loads rs
has_bad_list s = false

-- a number of bytes or an alignment that is out of its range
abbrev pub is_off : ℕ → ℕ → Option ℤ → Bool
is_off low top None = false
is_off low top (Some (pos n)) = nat_lt n low || nat_lt top n
is_off low top (Some (negsuc n)) = true

unfoldable pub has_bad_count : Shape → Bool
has_bad_count (Zeros e) = is_off 0 1048576 (signed e)
has_bad_count (Padding e) = is_off 1 8 (signed e)
has_bad_count s = false

-- the shape of the statement, or the first of the causes 4, 5, 6, 7 and 11
unfoldable pub checked : Option Shape → Result (Option Shape) Cause
checked None = Err cause.BadOperands
checked (Some s) =
    if has_bad_count s then Err cause.BadOperands
    else if has_bad_register s then Err cause.BadRegister
    else if has_bad_number s then Err cause.BadNumber
    else if has_bad_list s then Err cause.BadList
    else Ok (Some s)

abbrev pub shaped_by : Mnemonic → Option (List Operand) → Option Shape
shaped_by m None = None
shaped_by m (Some os) = shaped m os

abbrev pub named : Option Mnemonic → List ℕ → Result (Option Shape) Cause
named None rest = Err cause.UnknownMnemonic
named (Some m) rest = checked (shaped_by m (operands (operand_pieces rest)))

-- the shape of a statement; None if there is no statement
unfoldable pub statement_of : List ℕ → Result (Option Shape) Cause
statement_of text = if is_nil text then Ok None else named (mnemonic (first_word text)) (behind_word text)

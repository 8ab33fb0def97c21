-- When the assembler's definitions read a line as an instruction.
use Rattle.std.specs.Prelude.{◌≡◌, ◌<◌, ℕ, ◌+◌, ◌*◌, ◌/◌, ◌%◌, ◌^◌, List, ℤ, pos, negsuc, ◌+ℤ◌, Some, None, Ok}
use Rattle.thumb_insn.specs.declared.Insn.{Insn}
use Rattle.thumb_insn.specs.declared.Insn.TheVariants.{LdrLiteral, Adr, BranchIf, Branch, Bl}
use Rattle.thumb_insn.specs.Text.{insn_text}
use Rattle.thumb_asm.specs.Parts.{parts}
use Rattle.thumb_asm.specs.Syntax.{Shape}
use Rattle.thumb_asm.specs.Sizes.{statement_of}
use Rattle.thumb_asm.specs.Meaning.{Env, insn_at, Codes, Spells}
use Rattle.thumb_asm.specs.Assembly.{Assembles}
use Rattle.thumb_asm.specs.Causes.{second_group, first_cause}
use Rattle.text_lines.specs.Text.{lines_of}

abbrev pub IsAddress : ℤ → Type 0
IsAddress (pos n) = n < 2 ^ 32
IsAddress (negsuc n) = ⊥

-- If the text names a target, the target is an address: it does not wrap around at 2^32.
abbrev pub HasTarget : Insn → ℕ → Type 0
HasTarget (LdrLiteral t i) at = (at + 4) / 4 * 4 + i < 2 ^ 32
HasTarget (Adr d i) at = (at + 4) / 4 * 4 + i < 2 ^ 32
HasTarget (BranchIf c z) at = IsAddress (pos (at + 4) +ℤ z)
HasTarget (Branch z) at = IsAddress (pos (at + 4) +ℤ z)
HasTarget (Bl z) at = IsAddress (pos (at + 4) +ℤ z)
HasTarget i at = Unit {0}

-- The line of the instruction's text has no label. Its statement is this instruction at the address, whatever
-- values the names have.
abbrev pub IsRead : Insn → ℕ → Type 0
IsRead i at = ((parts (insn_text i at)).label ≡ None) × ((s : Shape) × (statement_of (parts (insn_text i at)).statement ≡ Ok (Some s)) × ((env : Env) → insn_at env at s ≡ Ok i))

-- The bytes of the line at the address are exactly the bytes of the instruction's codes.
abbrev pub IsSpelled : Insn → ℕ → Type 0
IsSpelled i at = (env : Env) (own : List ℕ) → (Codes i own → Spells env at (statement_of (parts (insn_text i at)).statement) own) × (Spells env at (statement_of (parts (insn_text i at)).statement) own → Codes i own)

-- At an even address the line is refused neither for an address nor for a value.
abbrev pub IsAccepted : Insn → ℕ → Type 0
IsAccepted i at = (env : Env) → at % 2 ≡ 0 → second_group env at (statement_of (parts (insn_text i at)).statement) ≡ None

-- A source of this line alone, at an even address, is not refused. It is assembled to the bytes of a code of
-- the instruction and to nothing else, whatever symbols are given.
abbrev pub IsAssembled : Insn → ℕ → Type 0
IsAssembled i at = (given : Env) → at % 2 ≡ 0 →
    (first_cause (lines_of (insn_text i at)) at given ≡ None)
    × ((own : List ℕ) → Codes i own → Assembles (lines_of (insn_text i at)) at given own (λ name. None))
    × ((bytes : List ℕ) (labels : Env) → Assembles (lines_of (insn_text i at)) at given bytes labels → Codes i bytes)

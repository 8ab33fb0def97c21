-- The operands that the code has, as those of the definitions: texts as lists of bytes.
use Rattle.std.specs.Prelude.{ℕ, Bool, true, false, List, [], ◌∷◌, ◌++◌, Option, Some, None, is_some, nat_eq, ◌&&◌, if◌then◌else◌}
use Rattle.thumb_insn.specs.Fields.{reg}
use Rattle.thumb_insn.specs.declared.Reg.{Reg}
use Rattle.thumb_asm.specs.declared.operand.Operand.{Operand as Held}
use Rattle.thumb_asm.specs.declared.operand.Operand.TheVariants as held
use Rattle.thumb_asm.specs.declared.Mnemonic.{Mnemonic}
use Rattle.thumb_asm.specs.declared.Mnemonic.TheVariants.{Values}
use Rattle.thumb_asm.specs.Chars.{register, strip, is_nil}
use Rattle.thumb_asm.specs.Operands.{Operand, Register, Raised, Immediate, Expression, Memory, MemoryRegister, MemoryImmediate, Registers, Quoted, ◌>>=◌, closed_by, stripped_by, ends, escape, operand, text_of}
use Rattle.thumb_asm.specs.Syntax.{as_expression}
use Rattle.std.specs.List.{list_all}

-- the pieces that are left of a text that a mark cuts
abbrev pub cuts_left : ℕ → Option (List ℕ) → List (List ℕ)
cuts_left mark None = []
cuts_left mark (Some text) = stripped_by mark text

abbrev pub with_range : Option (ℕ × ℕ) → List (ℕ × ℕ) → List (ℕ × ℕ)
with_range None rs = []
with_range (Some r) rs = r ∷ rs

-- the ranges before the first piece that is not a range
unfoldable pub good_ranges : List (List ℕ) → List (ℕ × ℕ)
good_ranges [] = []
good_ranges (p ∷ ps) = with_range (ends (stripped_by 45 p)) (good_ranges ps)

abbrev pub ranges_left : Option (List ℕ) → List (ℕ × ℕ)
ranges_left text = good_ranges (cuts_left 44 text)

-- the ranges in braces
unfoldable pub ranges_in : List ℕ → List (ℕ × ℕ)
ranges_in text = if is_nil (strip text) then [] else good_ranges (stripped_by 44 text)

abbrev pub with_good : Option ℕ → List ℕ → List ℕ
with_good None cs = []
with_good (Some c) cs = c ∷ cs

-- the bytes that a quoted text means, up to its end or to the first bad escape; perhaps after a backslash
unfoldable pub good_text : Bool → List ℕ → List ℕ
good_text escaped [] = []
good_text true (c ∷ cs) = with_good (escape c) (good_text false cs)
good_text false (c ∷ cs) = if nat_eq c 34 then [] else if nat_eq c 92 then good_text true cs else c ∷ good_text false cs

-- a quoted text has no bad escape, and ends with its quote; perhaps after a backslash
abbrev pub ends_well : Bool → List ℕ → Bool
ends_well escaped text = is_some (text_of escaped text)

abbrev pub operand_of : Held → Operand
operand_of (held.Register r) = Register r
operand_of (held.Raised r) = Raised r
operand_of (held.Immediate e) = Immediate e.now
operand_of (held.Expression e) = Expression e.now
operand_of (held.Memory n) = Memory n
operand_of (held.MemoryRegister n m) = MemoryRegister n m
operand_of (held.MemoryImmediate n e) = MemoryImmediate n e.now
operand_of (held.Registers text) = Registers (ranges_in text.now)
operand_of (held.Quoted text) = Quoted (good_text false text.now)

abbrev pub as_reg : List ℕ → Option Reg
as_reg word = register word >>= λ n. Some (reg n)

abbrev pub raised_reg : List ℕ → Option Reg
raised_reg piece = closed_by 33 piece >>= λ front. as_reg (strip front)

-- operands, and the operands that follow them
abbrev pub followed_by : List Operand → Option (List Operand) → Option (List Operand)
followed_by front rest = rest >>= λ os. Some (front ++ os)

-- a mnemonic with at most three operands
abbrev pub IsPlain : Mnemonic → Type 0
IsPlain (Values s) = ⊥
IsPlain m = Unit {0}

-- there is a piece, and each is an expression
abbrev pub is_expression : List ℕ → Bool
is_expression piece = is_some (operand piece >>= as_expression)

abbrev pub are_expressions : List (List ℕ) → Bool
are_expressions [] = false
are_expressions (p ∷ ps) = is_expression p && list_all is_expression ps

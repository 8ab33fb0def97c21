-- The values that the code has, as those of the definitions: texts as lists of bytes.
use Rattle.std.specs.Prelude.{◌≡◌, ℕ, ℤ, true, false, List, Option, option_map, Result, Ok, Err}
use Rattle.thumb_insn.specs.declared.Insn.{Insn}
use Rattle.thumb_insn.specs.declared.Insn.TheVariants as insn
use Rattle.thumb_asm.specs.declared.Cause.{Cause}
use Rattle.thumb_asm.specs.declared.expr.Expr.{Expr as Sum}
use Rattle.thumb_asm.specs.Operands.{Expr}
use Rattle.thumb_asm.specs.declared.parts.Line.{Line}
use Rattle.thumb_asm.specs.declared.parts.Pieces.{Pieces}
use Rattle.thumb_asm.specs.declared.lists.Ranges.{Ranges}
use Rattle.thumb_asm.specs.declared.shape.Shape.{Shape as Held}
use Rattle.thumb_asm.specs.declared.shape.Shape.TheVariants as held
use Rattle.thumb_asm.specs.Parts.{Parts, operand_pieces}
use Rattle.thumb_asm.specs.Kinds.{ranges_in, good_text}
use Rattle.thumb_encode.specs.Codes.{scale}
use Rattle.thumb_asm.specs.Syntax.{Shape, Fixed, Filled, Within, Aimed, Near, Misplaced, Listed, Block, Data, Text, Zeros, Padding, is_insn}

abbrev pub parts_of : Line → Parts
parts_of p = record { label = option_map (λ r. r.now) p.label; statement = p.statement.now }

-- the text that is left of a statement's operands, and of a list of registers
abbrev pub pieces_text : Pieces → Option (List ℕ)
pieces_text p = option_map (λ r. r.now) p.rest

abbrev pub ranges_text : Ranges → Option (List ℕ)
ranges_text p = option_map (λ r. r.now) p.rest

abbrev pub expr_of : Sum → Expr
expr_of e = record { name = option_map (λ r. r.now) e.name; number = e.number }

-- an instruction with another value
abbrev pub fill : Insn → ℕ → Insn
fill (insn.MovsImm d v) i = insn.MovsImm d i
fill (insn.CmpImm n v) i = insn.CmpImm n i
fill (insn.AddsImm8 d v) i = insn.AddsImm8 d i
fill (insn.SubsImm8 d v) i = insn.SubsImm8 d i
fill (insn.AddsImm3 d n v) i = insn.AddsImm3 d n i
fill (insn.SubsImm3 d n v) i = insn.SubsImm3 d n i
fill (insn.ShiftImm s d m v) i = insn.ShiftImm s d m i
fill (insn.LdrLiteral t v) i = insn.LdrLiteral t i
fill (insn.StoreImm s t n v) i = insn.StoreImm s t n i
fill (insn.LoadImm s t n v) i = insn.LoadImm s t n i
fill (insn.StoreSp t v) i = insn.StoreSp t i
fill (insn.LoadSp t v) i = insn.LoadSp t i
fill (insn.Adr d v) i = insn.Adr d i
fill (insn.AddSp d v) i = insn.AddSp d i
fill (insn.RaiseSp v) i = insn.RaiseSp i
fill (insn.LowerSp v) i = insn.LowerSp i
fill (insn.Bkpt v) i = insn.Bkpt i
fill (insn.Svc v) i = insn.Svc i
fill (insn.Hint v) i = insn.Hint i
fill (insn.Fence b v) i = insn.Fence b i
fill o i = o

-- an instruction with another distance
abbrev pub aim : Insn → ℤ → Insn
aim (insn.BranchIf c v) z = insn.BranchIf c z
aim (insn.Branch v) z = insn.Branch z
aim (insn.Bl v) z = insn.Bl z
aim o z = o

abbrev pub shape_of : Held → Shape
shape_of (held.Fixed i) = Fixed i
shape_of (held.Filled e i) = Filled e.now (fill i)
shape_of (held.Within low top e i) = Within low top e.now (fill i)
shape_of (held.Aimed e i) = Aimed e.now (aim i)
shape_of (held.Near e i) = Near e.now (fill i)
shape_of held.Misplaced = Misplaced
shape_of (held.Listed loads text) = Listed loads (ranges_in text.now)
shape_of (held.Block n raised loads text) = Block n raised loads (ranges_in text.now)
shape_of (held.Data s es) = Data (scale s) (operand_pieces es.now)
shape_of (held.Text text) = Text (good_text false text.now)
shape_of (held.Zeros e) = Zeros e.now
shape_of (held.Padding e) = Padding e.now

-- a statement is an instruction
abbrev pub HoldsInsn : Held → Type 0
HoldsInsn s = is_insn (shape_of s) ≡ true

abbrev pub shown : Result (Option Held) Cause → Result (Option Shape) Cause
shown (Ok s) = Ok (option_map shape_of s)
shown (Err c) = Err c

-- The text of the parts of a line that the code has.
use Rattle.std.specs.Prelude.{ℕ, ◌++◌, [], ◌∷◌, List, codes}
use Rattle.thumb_insn.specs.declared.mnemonics.Name.{Name}
use Rattle.thumb_insn.specs.declared.mnemonics.Name.TheVariants as name
use Rattle.thumb_insn.specs.declared.text.Operand.{Operand}
use Rattle.thumb_insn.specs.declared.text.Operand.TheVariants as operand
use Rattle.thumb_insn.specs.declared.text.Line.{Line}
use Rattle.thumb_insn.specs.declared.text.Line.TheVariants as parts
use Rattle.thumb_insn.specs.Text.{line, reg_text, raised, imm, place, at_sum, braces, low_registers, shift_name, op_name, store_name, load_name, change_name, branch_name, barrier_name}

abbrev pub name_text : Name → List ℕ
name_text name.Movs = codes "movs"
name_text name.Adds = codes "adds"
name_text name.Subs = codes "subs"
name_text name.Add = codes "add"
name_text name.Sub = codes "sub"
name_text name.Cmp = codes "cmp"
name_text name.Mov = codes "mov"
name_text name.Bx = codes "bx"
name_text name.Blx = codes "blx"
name_text name.Ldr = codes "ldr"
name_text name.Str = codes "str"
name_text name.Adr = codes "adr"
name_text name.Push = codes "push"
name_text name.Pop = codes "pop"
name_text name.Cpsie = codes "cpsie"
name_text name.Cpsid = codes "cpsid"
name_text name.Bkpt = codes "bkpt"
name_text name.Stm = codes "stm"
name_text name.Ldm = codes "ldm"
name_text name.Svc = codes "svc"
name_text name.B = codes "b"
name_text name.Bl = codes "bl"
name_text name.Mrs = codes "mrs"
name_text name.Nop = codes "nop"
name_text name.Yield = codes "yield"
name_text name.Wfe = codes "wfe"
name_text name.Wfi = codes "wfi"
name_text name.Sev = codes "sev"
name_text name.Hint = codes "hint"
name_text (name.ShiftBy shift) = shift_name shift
name_text (name.Compute op) = op_name op
name_text (name.StoreOf size) = store_name size
name_text (name.LoadOf load) = load_name load
name_text (name.Change bytes) = change_name bytes
name_text (name.BranchIf cond) = branch_name cond
name_text (name.Fence barrier) = barrier_name barrier

abbrev pub operand_text : Operand → List ℕ
operand_text (operand.Register r) = reg_text r
operand_text (operand.Imm i) = imm i
operand_text (operand.Place n) = place n
operand_text (operand.Sum n m) = at_sum (reg_text n) (reg_text m)
operand_text (operand.Beyond n i) = at_sum (reg_text n) (imm i)
operand_text operand.Apsr = codes "apsr"
operand_text operand.Interrupts = codes "i"

abbrev pub line_text : Line → List ℕ
line_text (parts.Bare name) = name_text name
line_text (parts.One name x) = line (name_text name) (operand_text x ∷ [])
line_text (parts.Two name d x) = line (name_text name) (reg_text d ∷ operand_text x ∷ [])
line_text (parts.Three name d n x) = line (name_text name) (reg_text d ∷ reg_text n ∷ operand_text x ∷ [])
line_text (parts.ToStatus n) = line (codes "msr") (codes "apsr" ∷ reg_text n ∷ [])
line_text (parts.List name list) = line (name_text name) (braces (low_registers list) ∷ [])
line_text (parts.ListAnd name list k) = line (name_text name) (braces (low_registers list ++ k ∷ []) ∷ [])
line_text (parts.Several name n list) = line (name_text name) (reg_text n ∷ braces (low_registers list) ∷ [])
line_text (parts.Raised name n list) = line (name_text name) (raised n ∷ braces (low_registers list) ∷ [])

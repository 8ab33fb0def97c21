-- The text of an instruction, as in the syntax column of the table of instructions in docs/FORMATS.md.
use Rattle.std.specs.Prelude.{ℕ, zero, suc, ◌+◌, ◌*◌, ◌/◌, ◌%◌, ◌^◌, Bool, true, false, ℤ, nat_eq, nat_lt, if◌then◌else◌, List, [], ◌∷◌, ◌++◌, map, codes, decimal}
use Rattle.std.specs.Int.{cast_unsigned, w32}
use Rattle.thumb_insn.specs.Fields.{is_listed}
use Rattle.thumb_insn.specs.declared.Reg.{Reg}
use Rattle.thumb_insn.specs.declared.Cond.{Cond}
use Rattle.thumb_insn.specs.declared.Cond.TheVariants as cond
use Rattle.thumb_insn.specs.declared.Shift.{Shift}
use Rattle.thumb_insn.specs.declared.Shift.TheVariants as shift
use Rattle.thumb_insn.specs.declared.Op.{Op}
use Rattle.thumb_insn.specs.declared.Op.TheVariants as op
use Rattle.thumb_insn.specs.declared.Size.{Size}
use Rattle.thumb_insn.specs.declared.Size.TheVariants as size
use Rattle.thumb_insn.specs.declared.Load.{Load}
use Rattle.thumb_insn.specs.declared.Load.TheVariants as load
use Rattle.thumb_insn.specs.declared.Bytes.{Bytes}
use Rattle.thumb_insn.specs.declared.Bytes.TheVariants as bytes
use Rattle.thumb_insn.specs.declared.Barrier.{Barrier}
use Rattle.thumb_insn.specs.declared.Barrier.TheVariants as barrier
use Rattle.thumb_insn.specs.declared.Insn.{Insn}
use Rattle.thumb_insn.specs.declared.Insn.TheVariants.{ShiftImm, AddsReg, SubsReg, AddsImm3, SubsImm3, MovsImm, CmpImm, AddsImm8, SubsImm8, Data, AddHigh, CmpHigh, MovHigh, Bx, Blx, LdrLiteral, StoreReg, LoadReg, StoreImm, LoadImm, StoreSp, LoadSp, Adr, AddSp, RaiseSp, LowerSp, Change, Push, Pop, Cpsie, Cpsid, Bkpt, Hint, Stm, Ldm, BranchIf, Svc, Branch, Bl, Fence, Mrs, Msr}

-- Places.

-- the target of a branch: the address plus 4 plus the offset, modulo 2^32
abbrev pub branch_target : ℕ → ℤ → ℕ
branch_target at offset = (at + 4 + cast_unsigned w32 offset) % 2 ^ 32

-- the address of a literal or of ADR: the address plus 4, aligned down to 4, plus the offset, modulo 2^32
abbrev pub literal_target : ℕ → ℕ → ℕ
literal_target at offset = ((at + 4) % 2 ^ 32 / 4 * 4 + offset) % 2 ^ 32

-- Operands.

-- a register by its number: r0 to r12, sp, lr, pc
abbrev pub register_name : ℕ → List ℕ
register_name k = if nat_eq k 13 then codes "sp" else if nat_eq k 14 then codes "lr" else if nat_eq k 15 then codes "pc" else codes "r" ++ decimal k

abbrev pub reg_text : Reg → List ℕ
reg_text r = register_name r.number

abbrev pub sp : List ℕ
sp = codes "sp"

-- an immediate, in decimal
abbrev pub imm : ℕ → List ℕ
imm i = codes "#" ++ decimal i

-- a hexadecimal digit, in lower case
abbrev pub hex_digit : ℕ → ℕ
hex_digit d = if nat_lt d 10 then 48 + d else 87 + d

-- eight hexadecimal digits
unfoldable pub hex_word : ℕ → List ℕ
hex_word n = hex_digit (n / 16 ^ 7 % 16) ∷ hex_digit (n / 16 ^ 6 % 16) ∷ hex_digit (n / 16 ^ 5 % 16) ∷ hex_digit (n / 16 ^ 4 % 16) ∷ hex_digit (n / 16 ^ 3 % 16) ∷ hex_digit (n / 16 ^ 2 % 16) ∷ hex_digit (n / 16 % 16) ∷ hex_digit (n % 16) ∷ []

-- an address: `0x` and eight hexadecimal digits
abbrev pub place : ℕ → List ℕ
place n = codes "0x" ++ hex_word n

-- the texts one after another, with a comma and one space between each two
abbrev pub joined : List (List ℕ) → List ℕ
joined [] = []
joined (x ∷ []) = x
joined (x ∷ y ∷ ys) = x ++ codes ", " ++ joined (y ∷ ys)

-- an address in memory: a register, and what is added to it, in brackets
abbrev pub at_sum : List ℕ → List ℕ → List ℕ
at_sum base more = codes "[" ++ joined (base ∷ more ∷ []) ++ codes "]"

-- the registers below number n that a list holds, ascending
unfoldable pub registers_below : ℕ → ℕ → List ℕ
registers_below list zero = []
registers_below list (suc n) = registers_below list n ++ (if is_listed list n then n ∷ [] else [])

abbrev pub is_empty : {A : Type 0} → List A → Bool
is_empty [] = true
is_empty (x ∷ xs) = false

-- the registers r0 to r7 that a list holds, ascending
abbrev pub low_registers : ℕ → List ℕ
low_registers list = registers_below list 8

-- one more register after the others, if the list has it
abbrev pub and_also : Bool → ℕ → List ℕ
and_also has k = if has then k ∷ [] else []

-- a list of registers by their names, in braces
abbrev pub braces : List ℕ → List ℕ
braces registers = codes "{" ++ joined (map register_name registers) ++ codes "}"

-- Mnemonics.

abbrev pub shift_name : Shift → List ℕ
shift_name shift.Lsl = codes "lsls"
shift_name shift.Lsr = codes "lsrs"
shift_name shift.Asr = codes "asrs"

abbrev pub op_name : Op → List ℕ
op_name op.Ands = codes "ands"
op_name op.Eors = codes "eors"
op_name op.Lsls = codes "lsls"
op_name op.Lsrs = codes "lsrs"
op_name op.Asrs = codes "asrs"
op_name op.Adcs = codes "adcs"
op_name op.Sbcs = codes "sbcs"
op_name op.Rors = codes "rors"
op_name op.Tst = codes "tst"
op_name op.Rsbs = codes "rsbs"
op_name op.Cmp = codes "cmp"
op_name op.Cmn = codes "cmn"
op_name op.Orrs = codes "orrs"
op_name op.Muls = codes "muls"
op_name op.Bics = codes "bics"
op_name op.Mvns = codes "mvns"

abbrev pub store_name : Size → List ℕ
store_name size.Word = codes "str"
store_name size.Half = codes "strh"
store_name size.Byte = codes "strb"

abbrev pub load_name : Load → List ℕ
load_name (load.Whole size.Word) = codes "ldr"
load_name (load.Whole size.Half) = codes "ldrh"
load_name (load.Whole size.Byte) = codes "ldrb"
load_name load.SignedHalf = codes "ldrsh"
load_name load.SignedByte = codes "ldrsb"

abbrev pub change_name : Bytes → List ℕ
change_name bytes.Sxth = codes "sxth"
change_name bytes.Sxtb = codes "sxtb"
change_name bytes.Uxth = codes "uxth"
change_name bytes.Uxtb = codes "uxtb"
change_name bytes.Rev = codes "rev"
change_name bytes.Rev16 = codes "rev16"
change_name bytes.Revsh = codes "revsh"

abbrev pub branch_name : Cond → List ℕ
branch_name cond.Eq = codes "beq"
branch_name cond.Ne = codes "bne"
branch_name cond.Cs = codes "bcs"
branch_name cond.Cc = codes "bcc"
branch_name cond.Mi = codes "bmi"
branch_name cond.Pl = codes "bpl"
branch_name cond.Vs = codes "bvs"
branch_name cond.Vc = codes "bvc"
branch_name cond.Hi = codes "bhi"
branch_name cond.Ls = codes "bls"
branch_name cond.Ge = codes "bge"
branch_name cond.Lt = codes "blt"
branch_name cond.Gt = codes "bgt"
branch_name cond.Le = codes "ble"

abbrev pub barrier_name : Barrier → List ℕ
barrier_name barrier.Dsb = codes "dsb"
barrier_name barrier.Dmb = codes "dmb"
barrier_name barrier.Isb = codes "isb"

-- Whole instructions.

-- a mnemonic, one space, its operands
abbrev pub line : List ℕ → List (List ℕ) → List ℕ
line name operands = name ++ codes " " ++ joined operands

-- a shift by an immediate; a shift to the left by 0 is a move
abbrev pub shift_text : Shift → Reg → Reg → ℕ → List ℕ
shift_text shift.Lsl d m by = if nat_eq by 0 then line (codes "movs") (reg_text d ∷ reg_text m ∷ []) else line (codes "lsls") (reg_text d ∷ reg_text m ∷ imm by ∷ [])
shift_text shift.Lsr d m by = line (codes "lsrs") (reg_text d ∷ reg_text m ∷ imm by ∷ [])
shift_text shift.Asr d m by = line (codes "asrs") (reg_text d ∷ reg_text m ∷ imm by ∷ [])

-- an operation on two low registers; `rsbs` also shows its immediate 0
abbrev pub op_text : Op → Reg → Reg → List ℕ
op_text op.Rsbs d m = line (codes "rsbs") (reg_text d ∷ reg_text m ∷ imm 0 ∷ [])
op_text op d m = line (op_name op) (reg_text d ∷ reg_text m ∷ [])

-- a hint; the first five have names
abbrev pub hint_text : ℕ → List ℕ
hint_text h =
    if nat_eq h 0 then codes "nop"
    else if nat_eq h 1 then codes "yield"
    else if nat_eq h 2 then codes "wfe"
    else if nat_eq h 3 then codes "wfi"
    else if nat_eq h 4 then codes "sev"
    else line (codes "hint") (imm h ∷ [])

-- a base register that the instruction raises, so with `!`
abbrev pub raised : Reg → List ℕ
raised n = reg_text n ++ codes "!"

-- the text of an instruction at an address
unfoldable pub insn_text : Insn → ℕ → List ℕ
insn_text (ShiftImm shift d m by) at = shift_text shift d m by
insn_text (AddsReg d n m) at = line (codes "adds") (reg_text d ∷ reg_text n ∷ reg_text m ∷ [])
insn_text (SubsReg d n m) at = line (codes "subs") (reg_text d ∷ reg_text n ∷ reg_text m ∷ [])
insn_text (AddsImm3 d n i) at = line (codes "adds") (reg_text d ∷ reg_text n ∷ imm i ∷ [])
insn_text (SubsImm3 d n i) at = line (codes "subs") (reg_text d ∷ reg_text n ∷ imm i ∷ [])
insn_text (MovsImm d i) at = line (codes "movs") (reg_text d ∷ imm i ∷ [])
insn_text (CmpImm n i) at = line (codes "cmp") (reg_text n ∷ imm i ∷ [])
insn_text (AddsImm8 d i) at = line (codes "adds") (reg_text d ∷ imm i ∷ [])
insn_text (SubsImm8 d i) at = line (codes "subs") (reg_text d ∷ imm i ∷ [])
insn_text (Data op d m) at = op_text op d m
insn_text (AddHigh d m) at = line (codes "add") (reg_text d ∷ reg_text m ∷ [])
insn_text (CmpHigh n m) at = line (codes "cmp") (reg_text n ∷ reg_text m ∷ [])
insn_text (MovHigh d m) at = line (codes "mov") (reg_text d ∷ reg_text m ∷ [])
insn_text (Bx m) at = line (codes "bx") (reg_text m ∷ [])
insn_text (Blx m) at = line (codes "blx") (reg_text m ∷ [])
insn_text (LdrLiteral t i) at = line (codes "ldr") (reg_text t ∷ place (literal_target at i) ∷ [])
insn_text (StoreReg size t n m) at = line (store_name size) (reg_text t ∷ at_sum (reg_text n) (reg_text m) ∷ [])
insn_text (LoadReg load t n m) at = line (load_name load) (reg_text t ∷ at_sum (reg_text n) (reg_text m) ∷ [])
insn_text (StoreImm size t n i) at = line (store_name size) (reg_text t ∷ at_sum (reg_text n) (imm i) ∷ [])
insn_text (LoadImm size t n i) at = line (load_name (load.Whole size)) (reg_text t ∷ at_sum (reg_text n) (imm i) ∷ [])
insn_text (StoreSp t i) at = line (codes "str") (reg_text t ∷ at_sum sp (imm i) ∷ [])
insn_text (LoadSp t i) at = line (codes "ldr") (reg_text t ∷ at_sum sp (imm i) ∷ [])
insn_text (Adr d i) at = line (codes "adr") (reg_text d ∷ place (literal_target at i) ∷ [])
insn_text (AddSp d i) at = line (codes "add") (reg_text d ∷ sp ∷ imm i ∷ [])
insn_text (RaiseSp i) at = line (codes "add") (sp ∷ imm i ∷ [])
insn_text (LowerSp i) at = line (codes "sub") (sp ∷ imm i ∷ [])
insn_text (Change bytes d m) at = line (change_name bytes) (reg_text d ∷ reg_text m ∷ [])
insn_text (Push list lr) at = line (codes "push") (braces (low_registers list ++ and_also lr 14) ∷ [])
insn_text (Pop list has_pc) at = line (codes "pop") (braces (low_registers list ++ and_also has_pc 15) ∷ [])
insn_text Cpsie at = line (codes "cpsie") (codes "i" ∷ [])
insn_text Cpsid at = line (codes "cpsid") (codes "i" ∷ [])
insn_text (Bkpt i) at = line (codes "bkpt") (imm i ∷ [])
insn_text (Hint h) at = hint_text h
insn_text (Stm n list) at = line (codes "stm") (raised n ∷ braces (low_registers list) ∷ [])
insn_text (Ldm n list) at = line (codes "ldm") ((if is_listed list n.number then reg_text n else raised n) ∷ braces (low_registers list) ∷ [])
insn_text (BranchIf cond offset) at = line (branch_name cond) (place (branch_target at offset) ∷ [])
insn_text (Svc i) at = line (codes "svc") (imm i ∷ [])
insn_text (Branch offset) at = line (codes "b") (place (branch_target at offset) ∷ [])
insn_text (Bl offset) at = line (codes "bl") (place (branch_target at offset) ∷ [])
insn_text (Fence barrier o) at = line (barrier_name barrier) (imm o ∷ [])
insn_text (Mrs d) at = line (codes "mrs") (reg_text d ∷ codes "apsr" ∷ [])
insn_text (Msr n) at = line (codes "msr") (codes "apsr" ∷ reg_text n ∷ [])

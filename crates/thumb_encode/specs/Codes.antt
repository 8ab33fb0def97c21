-- The table of instructions read in the other direction: the code of an instruction, and why an instruction has
-- none (docs/FORMATS.md, the table and its ranges).
use Rattle.std.specs.Prelude.{◌≡◌, ℕ, ◌+◌, ◌*◌, ◌/◌, ◌%◌, ◌^◌, ◌<◌, Bool, true, false, ℤ, pos, negsuc, nat_eq, nat_lt, nat_le, if◌then◌else◌, Option, Some, None, Result, Ok, ◌&&◌, ◌||◌, not}
use Rattle.std.specs.Int.{cast_unsigned, w32}
use Rattle.thumb_encode.specs.declared.Fit.{Fit}
use Rattle.thumb_encode.specs.declared.Fit.TheVariants.{Offset, Register, Align}
use Rattle.thumb_insn.specs.Table.{is_later, branch_bit, decoded_of}
use Rattle.thumb_insn.specs.Range.{IsCode, insn_of}
use Rattle.thumb_insn.specs.declared.Decoded.TheVariants as decoded
use Rattle.thumb_insn.specs.declared.Code.{Code}
use Rattle.thumb_insn.specs.declared.Code.TheVariants.{One, Two}
use Rattle.thumb_insn.specs.declared.Reg.{Reg}
use Rattle.thumb_insn.specs.declared.Cond.{Cond}
use Rattle.thumb_insn.specs.declared.Cond.TheVariants as cond
use Rattle.thumb_insn.specs.declared.Shift.{Shift}
use Rattle.thumb_insn.specs.declared.Shift.TheVariants as shift
use Rattle.thumb_insn.specs.declared.Op.{Op}
use Rattle.thumb_insn.specs.declared.Op.TheVariants as op
use Rattle.thumb_insn.specs.declared.Size.{Size}
use Rattle.thumb_insn.specs.declared.Size.TheVariants as size
use Rattle.thumb_insn.specs.declared.Load.{Load}
use Rattle.thumb_insn.specs.declared.Load.TheVariants as load
use Rattle.thumb_insn.specs.declared.Bytes.{Bytes}
use Rattle.thumb_insn.specs.declared.Bytes.TheVariants as bytes
use Rattle.thumb_insn.specs.declared.Barrier.{Barrier}
use Rattle.thumb_insn.specs.declared.Barrier.TheVariants as barrier
use Rattle.thumb_insn.specs.declared.Insn.{Insn}
use Rattle.thumb_insn.specs.declared.Insn.TheVariants.{ShiftImm, AddsReg, SubsReg, AddsImm3, SubsImm3, MovsImm, CmpImm, AddsImm8, SubsImm8, Data, AddHigh, CmpHigh, MovHigh, Bx, Blx, LdrLiteral, StoreReg, LoadReg, StoreImm, LoadImm, StoreSp, LoadSp, Adr, AddSp, RaiseSp, LowerSp, Change, Push, Pop, Cpsie, Cpsid, Bkpt, Hint, Stm, Ldm, BranchIf, Svc, Branch, Bl, Fence, Mrs, Msr}

-- Why an instruction has no code.

-- the first cause that applies: a register, then a value out of range, then a value that is not a multiple
abbrev pub misfit : Bool → Bool → Bool → Option Fit
misfit register offset align = if register then Some Register else if offset then Some Offset else if align then Some Align else None

-- not one of r0 to r7
abbrev pub is_high : Reg → Bool
is_high r = nat_le 8 r.number

-- not one of the sixteen registers
abbrev pub is_no_register : Reg → Bool
is_no_register r = nat_le 16 r.number

abbrev pub is : Reg → ℕ → Bool
is r k = nat_eq r.number k

abbrev pub is_no_multiple : ℕ → ℕ → Bool
is_no_multiple i n = not (nat_eq (i % n) 0)

-- below -low or above top
abbrev pub outside : ℤ → ℕ → ℕ → Bool
outside (pos n) low top = nat_lt top n
outside (negsuc n) low top = nat_le low n

-- -1 is odd
abbrev pub is_odd : ℤ → Bool
is_odd (pos n) = is_no_multiple n 2
is_odd (negsuc n) = not (is_no_multiple n 2)

-- how many bytes an immediate offset counts in
abbrev pub scale : Size → ℕ
scale size.Word = 4
scale size.Half = 2
scale size.Byte = 1

-- a shift to the right is by 1 to 32, a shift to the left by 0 to 31
abbrev pub is_no_shift : Shift → ℕ → Bool
is_no_shift shift.Lsl by = nat_lt 31 by
is_no_shift shift.Lsr by = nat_eq by 0 || nat_lt 32 by
is_no_shift shift.Asr by = nat_eq by 0 || nat_lt 32 by

-- a list is a byte, with bit k for register k; None: the instruction has a code
abbrev pub fit_of : Insn → Option Fit
fit_of (ShiftImm s d m by) = misfit (is_high d || is_high m) (is_no_shift s by) false
fit_of (AddsReg d n m) = misfit (is_high d || is_high n || is_high m) false false
fit_of (SubsReg d n m) = misfit (is_high d || is_high n || is_high m) false false
fit_of (AddsImm3 d n i) = misfit (is_high d || is_high n) (nat_lt 7 i) false
fit_of (SubsImm3 d n i) = misfit (is_high d || is_high n) (nat_lt 7 i) false
fit_of (MovsImm d i) = misfit (is_high d) (nat_lt 255 i) false
fit_of (CmpImm n i) = misfit (is_high n) (nat_lt 255 i) false
fit_of (AddsImm8 d i) = misfit (is_high d) (nat_lt 255 i) false
fit_of (SubsImm8 d i) = misfit (is_high d) (nat_lt 255 i) false
fit_of (Data op d m) = misfit (is_high d || is_high m) false false
fit_of (AddHigh d m) = misfit (is_no_register d || is_no_register m || (is d 15 && is m 15)) false false
fit_of (CmpHigh n m) = misfit (is_no_register n || is_no_register m || (not (is_high n || is_high m)) || is n 15 || is m 15) false false
fit_of (MovHigh d m) = misfit (is_no_register d || is_no_register m) false false
fit_of (Bx m) = misfit (is_no_register m || is m 15) false false
fit_of (Blx m) = misfit (is_no_register m || is m 15) false false
fit_of (LdrLiteral t i) = misfit (is_high t) (nat_lt 1020 i) (is_no_multiple i 4)
fit_of (StoreReg s t n m) = misfit (is_high t || is_high n || is_high m) false false
fit_of (LoadReg k t n m) = misfit (is_high t || is_high n || is_high m) false false
fit_of (StoreImm s t n i) = misfit (is_high t || is_high n) (nat_lt (31 * scale s) i) (is_no_multiple i (scale s))
fit_of (LoadImm s t n i) = misfit (is_high t || is_high n) (nat_lt (31 * scale s) i) (is_no_multiple i (scale s))
fit_of (StoreSp t i) = misfit (is_high t) (nat_lt 1020 i) (is_no_multiple i 4)
fit_of (LoadSp t i) = misfit (is_high t) (nat_lt 1020 i) (is_no_multiple i 4)
fit_of (Adr d i) = misfit (is_high d) (nat_lt 1020 i) (is_no_multiple i 4)
fit_of (AddSp d i) = misfit (is_high d) (nat_lt 1020 i) (is_no_multiple i 4)
fit_of (RaiseSp i) = misfit false (nat_lt 508 i) (is_no_multiple i 4)
fit_of (LowerSp i) = misfit false (nat_lt 508 i) (is_no_multiple i 4)
fit_of (Change b d m) = misfit (is_high d || is_high m) false false
fit_of (Push list lr) = misfit (nat_eq list 0 && not lr) false false
fit_of (Pop list has_pc) = misfit (nat_eq list 0 && not has_pc) false false
fit_of Cpsie = None
fit_of Cpsid = None
fit_of (Bkpt i) = misfit false (nat_lt 255 i) false
fit_of (Hint i) = misfit false (nat_lt 15 i) false
fit_of (Stm n list) = misfit (is_high n || nat_eq list 0 || is_later list n.number) false false
fit_of (Ldm n list) = misfit (is_high n || nat_eq list 0) false false
fit_of (BranchIf c offset) = misfit false (outside offset 256 254) (is_odd offset)
fit_of (Svc i) = misfit false (nat_lt 255 i) false
fit_of (Branch offset) = misfit false (outside offset 2048 2046) (is_odd offset)
fit_of (Bl offset) = misfit false (outside offset 16777216 16777214) (is_odd offset)
fit_of (Fence b i) = misfit false (nat_lt 15 i) false
fit_of (Mrs d) = misfit (is_no_register d || is d 13 || is d 15) false false
fit_of (Msr n) = misfit (is_no_register n || is n 13 || is n 15) false false

-- The code.

-- the operations on two registers, in the order of their codes
abbrev pub op_code : Op → ℕ
op_code op.Ands = 0
op_code op.Eors = 1
op_code op.Lsls = 2
op_code op.Lsrs = 3
op_code op.Asrs = 4
op_code op.Adcs = 5
op_code op.Sbcs = 6
op_code op.Rors = 7
op_code op.Tst = 8
op_code op.Rsbs = 9
op_code op.Cmp = 10
op_code op.Cmn = 11
op_code op.Orrs = 12
op_code op.Muls = 13
op_code op.Bics = 14
op_code op.Mvns = 15

-- the conditions, in the order of their codes
abbrev pub cond_code : Cond → ℕ
cond_code cond.Eq = 0
cond_code cond.Ne = 1
cond_code cond.Cs = 2
cond_code cond.Cc = 3
cond_code cond.Mi = 4
cond_code cond.Pl = 5
cond_code cond.Vs = 6
cond_code cond.Vc = 7
cond_code cond.Hi = 8
cond_code cond.Ls = 9
cond_code cond.Ge = 10
cond_code cond.Lt = 11
cond_code cond.Gt = 12
cond_code cond.Le = 13

-- codes without their fields

abbrev pub shift_code : Shift → ℕ
shift_code shift.Lsl = 0x0000
shift_code shift.Lsr = 0x0800
shift_code shift.Asr = 0x1000

abbrev pub store_code : Size → ℕ
store_code size.Word = 0x5000
store_code size.Half = 0x5200
store_code size.Byte = 0x5400

abbrev pub load_code : Load → ℕ
load_code (load.Whole size.Word) = 0x5800
load_code (load.Whole size.Half) = 0x5A00
load_code (load.Whole size.Byte) = 0x5C00
load_code load.SignedByte = 0x5600
load_code load.SignedHalf = 0x5E00

-- the code of a store; that of a load is 0x800 more
abbrev pub imm_code : Size → ℕ
imm_code size.Word = 0x6000
imm_code size.Half = 0x8000
imm_code size.Byte = 0x7000

abbrev pub bytes_code : Bytes → ℕ
bytes_code bytes.Sxth = 0xB200
bytes_code bytes.Sxtb = 0xB240
bytes_code bytes.Uxth = 0xB280
bytes_code bytes.Uxtb = 0xB2C0
bytes_code bytes.Rev = 0xBA00
bytes_code bytes.Rev16 = 0xBA40
bytes_code bytes.Revsh = 0xBAC0

-- a truth value as a bit
abbrev pub flag : Bool → ℕ
flag b = if b then 1 else 0

-- the low bits of half an offset, in two's complement
abbrev pub half_offset : ℤ → ℕ → ℕ
half_offset z width = cast_unsigned w32 z / 2 % 2 ^ width

-- three registers of three bits in a row, the last one lowest
abbrev pub low3 : Reg → Reg → Reg → ℕ
low3 m n d = m.number * 64 + n.number * 8 + d.number

-- two registers of three bits
abbrev pub low2 : Reg → Reg → ℕ
low2 m d = m.number * 8 + d.number

-- a register of four bits, with its top bit at 7
abbrev pub split : Reg → ℕ
split d = d.number / 8 * 128 + d.number % 8

abbrev pub barrier_code : Barrier → ℕ
barrier_code barrier.Dsb = 0x8F40
barrier_code barrier.Dmb = 0x8F50
barrier_code barrier.Isb = 0x8F60

-- the halfwords of a long branch, from half its offset as 24 bits S:I1:I2:i10:i11
abbrev pub long_first : ℕ → ℕ
long_first x = 0xF000 + x / 2 ^ 23 * 1024 + x / 2 ^ 11 % 1024

abbrev pub long_second : ℕ → ℕ
long_second x = 0xD000 + branch_bit (x / 2 ^ 22 % 2) (x / 2 ^ 23) * 8192 + branch_bit (x / 2 ^ 21 % 2) (x / 2 ^ 23) * 2048 + x % 2 ^ 11

-- the code of an instruction that fits
abbrev pub code_of : Insn → Code
code_of (ShiftImm s d m by) = One (shift_code s + by % 32 * 64 + low2 m d)
code_of (AddsReg d n m) = One (0x1800 + low3 m n d)
code_of (SubsReg d n m) = One (0x1A00 + low3 m n d)
code_of (AddsImm3 d n i) = One (0x1C00 + i * 64 + low2 n d)
code_of (SubsImm3 d n i) = One (0x1E00 + i * 64 + low2 n d)
code_of (MovsImm d i) = One (0x2000 + d.number * 256 + i)
code_of (CmpImm n i) = One (0x2800 + n.number * 256 + i)
code_of (AddsImm8 d i) = One (0x3000 + d.number * 256 + i)
code_of (SubsImm8 d i) = One (0x3800 + d.number * 256 + i)
code_of (Data op d m) = One (0x4000 + op_code op * 64 + low2 m d)
code_of (AddHigh d m) = One (0x4400 + m.number * 8 + split d)
code_of (CmpHigh n m) = One (0x4500 + m.number * 8 + split n)
code_of (MovHigh d m) = One (0x4600 + m.number * 8 + split d)
code_of (Bx m) = One (0x4700 + m.number * 8)
code_of (Blx m) = One (0x4780 + m.number * 8)
code_of (LdrLiteral t i) = One (0x4800 + t.number * 256 + i / 4)
code_of (StoreReg s t n m) = One (store_code s + low3 m n t)
code_of (LoadReg k t n m) = One (load_code k + low3 m n t)
code_of (StoreImm s t n i) = One (imm_code s + i / scale s * 64 + low2 n t)
code_of (LoadImm s t n i) = One (imm_code s + 0x0800 + i / scale s * 64 + low2 n t)
code_of (StoreSp t i) = One (0x9000 + t.number * 256 + i / 4)
code_of (LoadSp t i) = One (0x9800 + t.number * 256 + i / 4)
code_of (Adr d i) = One (0xA000 + d.number * 256 + i / 4)
code_of (AddSp d i) = One (0xA800 + d.number * 256 + i / 4)
code_of (RaiseSp i) = One (0xB000 + i / 4)
code_of (LowerSp i) = One (0xB080 + i / 4)
code_of (Change b d m) = One (bytes_code b + low2 m d)
code_of (Push list lr) = One (0xB400 + flag lr * 256 + list)
code_of (Pop list has_pc) = One (0xBC00 + flag has_pc * 256 + list)
code_of Cpsie = One 0xB662
code_of Cpsid = One 0xB672
code_of (Bkpt i) = One (0xBE00 + i)
code_of (Hint i) = One (0xBF00 + i * 16)
code_of (Stm n list) = One (0xC000 + n.number * 256 + list)
code_of (Ldm n list) = One (0xC800 + n.number * 256 + list)
code_of (BranchIf c offset) = One (0xD000 + cond_code c * 256 + half_offset offset 8)
code_of (Svc i) = One (0xDF00 + i)
code_of (Branch offset) = One (0xE000 + half_offset offset 11)
code_of (Bl offset) = Two (long_first (half_offset offset 24)) (long_second (half_offset offset 24))
code_of (Fence b i) = Two 0xF3BF (barrier_code b + i)
code_of (Mrs d) = Two 0xF3EF (0x8000 + d.number * 256)
code_of (Msr n) = Two (0xF380 + n.number) 0x8800

-- a list of registers is a byte
abbrev pub HasList : Insn → Type 0
HasList (Push list lr) = list < 256
HasList (Pop list has_pc) = list < 256
HasList (Stm n list) = list < 256
HasList (Ldm n list) = list < 256
HasList i = Unit {0}

-- Sizes in bytes.

-- an instruction of two halfwords
abbrev pub has_wide : Insn → Bool
has_wide (Bl offset) = true
has_wide (Fence b i) = true
has_wide (Mrs d) = true
has_wide (Msr n) = true
has_wide i = false

abbrev pub insn_size : Insn → ℕ
insn_size i = if has_wide i then 4 else 2

abbrev pub code_size : Code → ℕ
code_size (One h) = 2
code_size (Two first second) = 4

-- How the answer of the encoder relates to the table and the decoder.

-- the decoder reads the code as the instruction, whatever halfword comes after a narrow code
abbrev pub DecodesTo : Insn → Code → Type 0
DecodesTo i (One h) = (second : Option ℕ) → decoded_of h second ≡ decoded.Narrow i
DecodesTo i (Two first second) = decoded_of first (Some second) ≡ decoded.Wide i

-- if the table pairs a code with the instruction, that code is the answer
abbrev pub IsOnlyCode : Insn → Result Code Fit → Type 0
IsOnlyCode i answer = (c : Code) → IsCode c → insn_of c ≡ Some i → answer ≡ Ok c

-- if the decoder reads a halfword as the instruction, that halfword is the answer
abbrev pub UndoesNarrow : Insn → Result Code Fit → Type 0
UndoesNarrow i answer = (h : ℕ) (second : Option ℕ) → h < 2 ^ 16 → decoded_of h second ≡ decoded.Narrow i → answer ≡ Ok (One h)

-- if the decoder reads two halfwords as the instruction, these are the answer
abbrev pub UndoesWide : Insn → Result Code Fit → Type 0
UndoesWide i answer = (first second : ℕ) → first < 2 ^ 16 → second < 2 ^ 16 → decoded_of first (Some second) ≡ decoded.Wide i → answer ≡ Ok (Two first second)

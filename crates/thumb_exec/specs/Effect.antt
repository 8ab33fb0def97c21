-- What one instruction does: the table of instructions in docs/FORMATS.md, one line for each form of an
-- instruction. Source: ARMv6-M Architecture Reference Manual, sections A6.7 (instructions) and A2.2.1 (shifts,
-- sums). Addresses and words are whole numbers below 2 ^ 32, sums are modulo 2 ^ 32.
use Rattle.std.specs.Prelude.{◌≡◌, ℕ, zero, suc, ◌+◌, ◌-◌, ◌*◌, ◌/◌, ◌%◌, ◌^◌, Bool, true, false, ℤ, pos, negsuc, nat_eq, if◌then◌else◌, List, [], ◌∷◌, bit_and, bit_or, bit_xor, Option, Some, None, ◌&&◌, not}
use Rattle.words_core.specs.declared.Flags.{Flags}
use Rattle.words_core.specs.declared.Regs.{Regs}
use Rattle.words_core.specs.Regs.{reg_at, with_reg, link_register, program_counter, stack_pointer}
use Rattle.words_core.specs.Words.{awc, complement, negative, is_zero, lsl_of, lsr_of, asr_of, ror_of, extend_of}
use Rattle.region_check.specs.declared.Right.{Right}
use Rattle.region_check.specs.declared.Right.TheVariants as right
use Rattle.kernel_abi.specs.declared.Fault.{Fault}
use Rattle.kernel_abi.specs.declared.Access.{Access}
use Rattle.kernel_abi.specs.declared.Access.TheVariants as access
use Rattle.kernel_abi.specs.Faults.{access_fault, unaligned_fault, state_fault, breakpoint_fault}
use Rattle.thumb_exec.specs.declared.cpu.Cpu.{Cpu}
use Rattle.thumb_exec.specs.declared.cpu.Outcome.{Outcome}
use Rattle.thumb_exec.specs.declared.cpu.Outcome.TheVariants as outcome
use Rattle.thumb_insn.specs.declared.Reg.{Reg}
use Rattle.thumb_insn.specs.declared.Cond.{Cond}
use Rattle.thumb_insn.specs.declared.Cond.TheVariants as cond
use Rattle.thumb_insn.specs.declared.Shift.{Shift}
use Rattle.thumb_insn.specs.declared.Shift.TheVariants as shift
use Rattle.thumb_insn.specs.declared.Op.{Op}
use Rattle.thumb_insn.specs.declared.Op.TheVariants as op
use Rattle.thumb_insn.specs.declared.Size.{Size}
use Rattle.thumb_insn.specs.declared.Size.TheVariants as size
use Rattle.thumb_insn.specs.declared.Load.{Load}
use Rattle.thumb_insn.specs.declared.Load.TheVariants as load
use Rattle.thumb_insn.specs.declared.Bytes.{Bytes}
use Rattle.thumb_insn.specs.declared.Bytes.TheVariants as bytes
use Rattle.thumb_insn.specs.declared.Insn.{Insn}
use Rattle.thumb_insn.specs.declared.Insn.TheVariants.{ShiftImm, AddsReg, SubsReg, AddsImm3, SubsImm3, MovsImm, CmpImm, AddsImm8, SubsImm8, Data, AddHigh, CmpHigh, MovHigh, Bx, Blx, LdrLiteral, StoreReg, LoadReg, StoreImm, LoadImm, StoreSp, LoadSp, Adr, AddSp, RaiseSp, LowerSp, Change, Push, Pop, Cpsie, Cpsid, Bkpt, Hint, Stm, Ldm, BranchIf, Svc, Branch, Bl, Fence, Mrs, Msr}

-- A store: its address, its number of bytes, and their value, little-endian.
pub record Store : Type 0 where
  pub addr : ℕ
  pub bytes : ℕ
  pub value : ℕ

-- What an instruction does besides changing registers: it stores; or it has loaded bytes from an address, and a
-- device there removes what the load took.
pub data Move : Type 0 where
  Puts : Store → Move
  Takes : ℕ → ℕ → Move  -- address, how many bytes

-- An instruction goes on, with a new processor and moves in order; or it is a system call, which does not change
-- the processor; or it faults.
pub data Effect : Type 0 where
  Next : Cpu → List Move → Effect
  Syscall : Effect
  Trap : Fault → Effect

-- ## Registers

-- the word in a register; at PC the address of the instruction
abbrev pub get : Cpu → Reg → ℕ
get c r = reg_at c.regs r.number

abbrev pub pc : Cpu → ℕ
pc c = reg_at c.regs program_counter

-- a register as an operand: PC reads as the address plus 4
abbrev pub operand : Cpu → Reg → ℕ
operand c r = if nat_eq r.number program_counter then (pc c + 4) % 2 ^ 32 else get c r

-- the processor with a word in a register
abbrev pub put : Cpu → ℕ → ℕ → Cpu
put c i v = record c { regs = with_reg c.regs i v }

abbrev pub with_flags : Cpu → Flags → Cpu
with_flags c f = record c { flags = f }

-- on to the next instruction
abbrev pub go_past : ℕ → Cpu → Cpu
go_past n c = put c program_counter ((pc c + n) % 2 ^ 32)

-- N and Z of the result
abbrev pub nz : Flags → ℕ → Flags
nz f v = record f { n = negative v; z = is_zero v }

-- N and Z of a sum are those of its value
abbrev pub FollowsSum : ℕ × Flags → Type 0
FollowsSum s = (s.1.n ≡ negative s.0) × (s.1.z ≡ is_zero s.0)

-- N, Z and C
abbrev pub nzc : Flags → ℕ → Bool → Flags
nzc f v c = record f { n = negative v; z = is_zero v; c = c }

-- A result goes to a register, with its flags.
abbrev pub result : Cpu → Reg → ℕ → Flags → Effect
result c d v f = Next (go_past 2 (with_flags (put c d.number v) f)) []

-- Only the flags change.
abbrev pub tested : Cpu → Flags → Effect
tested c f = Next (go_past 2 (with_flags c f)) []

-- A sum goes to a register, with its flags.
abbrev pub sum_to : Cpu → Reg → ℕ × Flags → Effect
sum_to c d s = result c d s.0 s.1

-- a shifted word goes to a register, with N, Z and C
abbrev pub shift_to : Cpu → Reg → ℕ × Bool → Effect
shift_to c d s = result c d s.0 (nzc c.flags s.0 s.1)

-- a shift by a number of bits, and C
abbrev pub shifted : Shift → ℕ → ℕ → Bool → ℕ × Bool
shifted shift.Lsl x by c = lsl_of x by c
shifted shift.Lsr x by c = lsr_of x by c
shifted shift.Asr x by c = asr_of x by c

-- the low byte, which is the count of a shift by a register
abbrev pub low_byte : ℕ → ℕ
low_byte x = x % 2 ^ 8

-- an operation on two low registers
abbrev pub data_effect : Op → Cpu → Reg → Reg → Effect
data_effect op.Ands c d m = result c d (bit_and (get c d) (get c m)) (nz c.flags (bit_and (get c d) (get c m)))
data_effect op.Eors c d m = result c d (bit_xor (get c d) (get c m)) (nz c.flags (bit_xor (get c d) (get c m)))
data_effect op.Lsls c d m = shift_to c d (lsl_of (get c d) (low_byte (get c m)) c.flags.c)
data_effect op.Lsrs c d m = shift_to c d (lsr_of (get c d) (low_byte (get c m)) c.flags.c)
data_effect op.Asrs c d m = shift_to c d (asr_of (get c d) (low_byte (get c m)) c.flags.c)
data_effect op.Adcs c d m = sum_to c d (awc (get c d) (get c m) c.flags.c)
data_effect op.Sbcs c d m = sum_to c d (awc (get c d) (complement (get c m)) c.flags.c)
data_effect op.Rors c d m = shift_to c d (ror_of (get c d) (low_byte (get c m)) c.flags.c)
data_effect op.Tst c d m = tested c (nz c.flags (bit_and (get c d) (get c m)))
data_effect op.Rsbs c d m = sum_to c d (awc (complement (get c m)) 0 true)
data_effect op.Cmp c d m = tested c (awc (get c d) (complement (get c m)) true).1
data_effect op.Cmn c d m = tested c (awc (get c d) (get c m) false).1
data_effect op.Orrs c d m = result c d (bit_or (get c d) (get c m)) (nz c.flags (bit_or (get c d) (get c m)))
data_effect op.Muls c d m = result c d (get c d * get c m % 2 ^ 32) (nz c.flags (get c d * get c m % 2 ^ 32))
data_effect op.Bics c d m = result c d (bit_and (get c d) (complement (get c m))) (nz c.flags (bit_and (get c d) (complement (get c m))))
data_effect op.Mvns c d m = result c d (complement (get c m)) (nz c.flags (complement (get c m)))

-- ## One load or store

-- Address, number of bytes, right: the first of these bytes that lacks the right.
abbrev pub Refusals : Type 0
Refusals = ℕ → ℕ → Right → Option ℕ

-- Address, number of bytes: what these bytes hold, as a little-endian number.
abbrev pub Contents : Type 0
Contents = ℕ → ℕ → ℕ

-- how many bytes a size has
abbrev pub size_of : Size → ℕ
size_of size.Word = 4
size_of size.Half = 2
size_of size.Byte = 1

-- a fault if a byte is refused, else the rest
abbrev pub unless_refused : Option ℕ → Access → Effect → Effect
unless_refused None kind next = next
unless_refused (Some a) kind next = Trap (access_fault a kind)

-- a fault if the address is not a multiple of n, else the rest
abbrev pub unless_unaligned : ℕ → ℕ → Bool → Effect → Effect
unless_unaligned addr n is_store next = if nat_eq (addr % n) 0 then next else Trap (unaligned_fault addr is_store)

-- a load or a store of n bytes: first the address is tested, then the rights
abbrev pub load_with : Refusals → ℕ → ℕ → Effect → Effect
load_with refuses addr n next = unless_unaligned addr n false (unless_refused (refuses addr n right.Read) access.Load next)

abbrev pub store_with : Refusals → ℕ → ℕ → Effect → Effect
store_with refuses addr n next = unless_unaligned addr n true (unless_refused (refuses addr n right.Write) access.Store next)

-- how many bytes are loaded, and their value as a word
abbrev pub load_size : Load → ℕ
load_size (load.Whole s) = size_of s
load_size load.SignedHalf = 2
load_size load.SignedByte = 1

abbrev pub widened : Load → ℕ → ℕ
widened (load.Whole s) v = v
widened load.SignedHalf v = extend_of v 16 true
widened load.SignedByte v = extend_of v 8 true

-- a load to a register, and a store of the low bytes of a register
abbrev pub load_effect : Refusals → Contents → Cpu → Load → Reg → ℕ → Effect
load_effect refuses holds c kind t addr = load_with refuses addr (load_size kind) (Next (go_past 2 (put c t.number (widened kind (holds addr (load_size kind))))) (Takes addr (load_size kind) ∷ []))

abbrev pub store_effect : Refusals → Cpu → Size → Reg → ℕ → Effect
store_effect refuses c s t addr = store_with refuses addr (size_of s) (Next (go_past 2 c) (Puts record { addr = addr; bytes = size_of s; value = get c t % 2 ^ (8 * size_of s) } ∷ []))

-- a sum of words
abbrev pub sum : ℕ → ℕ → ℕ
sum x y = (x + y) % 2 ^ 32

-- ## Branches

-- whether a condition is true of the flags
abbrev pub holds_if : Cond → Flags → Bool
holds_if cond.Eq f = f.z
holds_if cond.Ne f = not f.z
holds_if cond.Cs f = f.c
holds_if cond.Cc f = not f.c
holds_if cond.Mi f = f.n
holds_if cond.Pl f = not f.n
holds_if cond.Vs f = f.v
holds_if cond.Vc f = not f.v
holds_if cond.Hi f = f.c && not f.z
holds_if cond.Ls f = not (f.c && not f.z)
holds_if cond.Ge f = if f.n then f.v else not f.v
holds_if cond.Lt f = not (if f.n then f.v else not f.v)
holds_if cond.Gt f = (if f.n then f.v else not f.v) && not f.z
holds_if cond.Le f = not ((if f.n then f.v else not f.v) && not f.z)

-- the word that is congruent to a signed number
abbrev pub word_of : ℤ → ℕ
word_of (pos n) = n % 2 ^ 32
word_of (negsuc n) = 2 ^ 32 - 1 - n % 2 ^ 32

-- an offset from the address plus 4
abbrev pub target : Cpu → ℤ → ℕ
target c offset = (pc c + 4 + word_of offset) % 2 ^ 32

-- the instruction goes on at another address
abbrev pub jump : Cpu → ℕ → Effect
jump c to = Next (put c program_counter to) []

-- a branch to a value, after these moves; a State fault if bit 0 of the value is not set
abbrev pub branch_after : Cpu → ℕ → List Move → Effect
branch_after c v moves = if nat_eq (v % 2) 1 then Next (put c program_counter (v - 1)) moves else Trap (state_fault v)

abbrev pub branch_to : Cpu → ℕ → Effect
branch_to c v = branch_after c v []

-- ## Several words

-- A mask has bit k for register k. Of the n registers from k on, those in the mask, each with the address of its
-- word, ascending.
unfoldable pub words : ℕ → ℕ → ℕ → ℕ → List (ℕ × ℕ)
words mask k zero addr = []
words mask k (suc n) addr = if nat_eq (mask / 2 ^ k % 2) 1 then (k, addr) ∷ words mask (k + 1) n ((addr + 4) % 2 ^ 32) else words mask (k + 1) n addr

-- the registers of the mask with their addresses
unfoldable pub transfers : ℕ → ℕ → List (ℕ × ℕ)
transfers mask addr = words mask 0 16 addr

-- the earlier of two refusals
abbrev pub or_first : Option ℕ → Option ℕ → Option ℕ
or_first (Some a) later = Some a
or_first None later = later

-- the first byte in order of transfer that lacks the right
unfoldable pub first_refused : Refusals → Right → List (ℕ × ℕ) → Option ℕ
first_refused refuses r [] = None
first_refused refuses r (w ∷ ws) = or_first (refuses w.1 4 r) (first_refused refuses r ws)

-- the stores of these registers
unfoldable pub stores_of : Regs → List (ℕ × ℕ) → List Move
stores_of rs [] = []
stores_of rs (w ∷ ws) = Puts record { addr = w.1; bytes = 4; value = reg_at rs w.0 } ∷ stores_of rs ws

-- the loads of these words
unfoldable pub loads_of : List (ℕ × ℕ) → List Move
loads_of [] = []
loads_of (w ∷ ws) = Takes w.1 4 ∷ loads_of ws

-- the registers with these words loaded
unfoldable pub loaded_all : Contents → Regs → List (ℕ × ℕ) → Regs
loaded_all holds rs [] = rs
loaded_all holds rs (w ∷ ws) = loaded_all holds (with_reg rs w.0 (holds w.1 4)) ws

-- how many of the first k registers a mask has, and how many registers it has
unfoldable pub ones : ℕ → ℕ → ℕ
ones mask zero = 0
ones mask (suc k) = ones mask k + mask / 2 ^ k % 2

unfoldable pub count : ℕ → ℕ
count mask = ones mask 16

-- Stores of the registers of a mask, from an address on; then the processor becomes this one.
abbrev pub store_all : Refusals → Cpu → ℕ → ℕ → Cpu → Effect
store_all refuses c mask addr c' = unless_unaligned addr 4 true (unless_refused (first_refused refuses right.Write (transfers mask addr)) access.Store (Next c' (stores_of c.regs (transfers mask addr))))

-- Loads of the registers of a mask; then the instruction goes on with the new registers.
abbrev pub load_all : Refusals → Contents → Cpu → ℕ → ℕ → (Regs → Effect) → Effect
load_all refuses holds c mask addr next = unless_unaligned addr 4 false (unless_refused (first_refused refuses right.Read (transfers mask addr)) access.Load (next (loaded_all holds c.regs (transfers mask addr))))

-- the processor with other registers
abbrev pub with_regs : Cpu → Regs → Cpu
with_regs c rs = record c { regs = rs }

-- SP below the words of a mask
abbrev pub lowered : Cpu → ℕ → ℕ
lowered c mask = (reg_at c.regs stack_pointer + (2 ^ 32 - 4 * count mask)) % 2 ^ 32

-- PUSH: stores below SP, and lowers SP
abbrev pub push_effect : Refusals → Cpu → ℕ → Effect
push_effect refuses c mask = store_all refuses c mask (lowered c mask) (go_past 2 (put c stack_pointer (lowered c mask)))

-- STM: stores from register n on, and raises it
abbrev pub stm_effect : Refusals → Cpu → Reg → ℕ → Effect
stm_effect refuses c n mask = store_all refuses c mask (get c n) (go_past 2 (put c n.number (sum (get c n) (4 * count mask))))

-- LDM: loads from register n on, and raises it unless it is loaded too
abbrev pub ldm_next : Cpu → Reg → ℕ → Regs → Effect
ldm_next c n mask rs = Next (go_past 2 (if nat_eq (mask / 2 ^ n.number % 2) 1 then with_regs c rs else put (with_regs c rs) n.number (sum (get c n) (4 * count mask)))) (loads_of (transfers mask (get c n)))

abbrev pub ldm_effect : Refusals → Contents → Cpu → Reg → ℕ → Effect
ldm_effect refuses holds c n mask = load_all refuses holds c mask (get c n) (ldm_next c n mask)

-- POP: loads from SP on, and raises SP; PC, bit 15 of the mask, is the last one, and is a branch
abbrev pub popped : Cpu → ℕ → Regs → Cpu
popped c mask rs = put (with_regs c rs) stack_pointer (sum (reg_at c.regs stack_pointer) (4 * count mask))

abbrev pub pop_next : Cpu → ℕ → Bool → Regs → Effect
pop_next c mask has_pc rs =
    if has_pc then branch_after (popped c mask rs) (reg_at rs program_counter) (loads_of (transfers mask (reg_at c.regs stack_pointer)))
    else Next (go_past 2 (popped c mask rs)) (loads_of (transfers mask (reg_at c.regs stack_pointer)))

abbrev pub pop_effect : Refusals → Contents → Cpu → ℕ → Bool → Effect
pop_effect refuses holds c mask has_pc = load_all refuses holds c mask (reg_at c.regs stack_pointer) (pop_next c mask has_pc)

-- ## Other forms

-- A result without flags: a branch if it goes to PC, and aligned if it goes to SP.
abbrev pub place : Cpu → Reg → ℕ → Effect
place c d v =
    if nat_eq d.number program_counter then jump c (v / 2 * 2)
    else if nat_eq d.number stack_pointer then Next (go_past 2 (put c stack_pointer (v / 4 * 4))) []
    else Next (go_past 2 (put c d.number v)) []

-- the processor with lr = the address of the next instruction, with bit 0 set
abbrev pub linked : Cpu → ℕ → Cpu
linked c n = put c link_register (sum (pc c) n / 2 * 2 + 1)

-- a branch to a value, with lr
abbrev pub link_to : Cpu → ℕ → Effect
link_to c v = if nat_eq (v % 2) 1 then Next (put (linked c 2) program_counter (v - 1)) [] else Trap (state_fault v)

-- PC as a base: the address plus 4, aligned down
abbrev pub base : Cpu → ℕ
base c = sum (pc c) 4 / 4 * 4

-- a word whose low part is extended, or whose bytes are in another order
abbrev pub changed : Bytes → ℕ → ℕ
changed bytes.Sxth v = extend_of v 16 true
changed bytes.Sxtb v = extend_of v 8 true
changed bytes.Uxth v = extend_of v 16 false
changed bytes.Uxtb v = extend_of v 8 false
changed bytes.Rev v = v % 256 * 2 ^ 24 + v / 2 ^ 8 % 256 * 2 ^ 16 + v / 2 ^ 16 % 256 * 2 ^ 8 + v / 2 ^ 24
changed bytes.Rev16 v = v / 2 ^ 16 % 256 * 2 ^ 24 + v / 2 ^ 24 * 2 ^ 16 + v % 256 * 2 ^ 8 + v / 2 ^ 8 % 256
changed bytes.Revsh v = extend_of (v % 256 * 2 ^ 8 + v / 2 ^ 8 % 256) 16 true

-- the flags as bits 31 to 28, and the flags from these bits
abbrev pub apsr : Flags → ℕ
apsr f = (if f.n then 2 ^ 31 else 0) + (if f.z then 2 ^ 30 else 0) + (if f.c then 2 ^ 29 else 0) + (if f.v then 2 ^ 28 else 0)

abbrev pub flags_from : ℕ → Flags
flags_from v = record { n = nat_eq (v / 2 ^ 31 % 2) 1; z = nat_eq (v / 2 ^ 30 % 2) 1; c = nat_eq (v / 2 ^ 29 % 2) 1; v = nat_eq (v / 2 ^ 28 % 2) 1 }

-- the mask of a list of low registers and one more
abbrev pub with_bit : ℕ → Bool → ℕ → ℕ
with_bit list more k = if more then list + 2 ^ k else list

-- ## The table

-- The effect of an instruction on a processor and memory.
unfoldable pub effect : Refusals → Contents → Cpu → Insn → Effect
effect refuses holds c (ShiftImm shift d m by) = shift_to c d (shifted shift (get c m) by c.flags.c)
effect refuses holds c (AddsReg d n m) = sum_to c d (awc (get c n) (get c m) false)
effect refuses holds c (SubsReg d n m) = sum_to c d (awc (get c n) (complement (get c m)) true)
effect refuses holds c (AddsImm3 d n i) = sum_to c d (awc (get c n) i false)
effect refuses holds c (SubsImm3 d n i) = sum_to c d (awc (get c n) (complement i) true)
effect refuses holds c (MovsImm d i) = result c d i (nz c.flags i)
effect refuses holds c (CmpImm n i) = tested c (awc (get c n) (complement i) true).1
effect refuses holds c (AddsImm8 d i) = sum_to c d (awc (get c d) i false)
effect refuses holds c (SubsImm8 d i) = sum_to c d (awc (get c d) (complement i) true)
effect refuses holds c (Data op d m) = data_effect op c d m
effect refuses holds c (AddHigh d m) = place c d (sum (operand c d) (operand c m))
effect refuses holds c (CmpHigh n m) = tested c (awc (get c n) (complement (get c m)) true).1
effect refuses holds c (MovHigh d m) = place c d (operand c m)
effect refuses holds c (Bx m) = branch_to c (get c m)
effect refuses holds c (Blx m) = link_to c (get c m)
effect refuses holds c (LdrLiteral t i) = load_effect refuses holds c (load.Whole size.Word) t (sum (base c) i)
effect refuses holds c (StoreReg s t n m) = store_effect refuses c s t (sum (get c n) (get c m))
effect refuses holds c (LoadReg k t n m) = load_effect refuses holds c k t (sum (get c n) (get c m))
effect refuses holds c (StoreImm s t n i) = store_effect refuses c s t (sum (get c n) i)
effect refuses holds c (LoadImm s t n i) = load_effect refuses holds c (load.Whole s) t (sum (get c n) i)
effect refuses holds c (StoreSp t i) = store_effect refuses c size.Word t (sum (reg_at c.regs stack_pointer) i)
effect refuses holds c (LoadSp t i) = load_effect refuses holds c (load.Whole size.Word) t (sum (reg_at c.regs stack_pointer) i)
effect refuses holds c (Adr d i) = Next (go_past 2 (put c d.number (sum (base c) i))) []
effect refuses holds c (AddSp d i) = Next (go_past 2 (put c d.number (sum (reg_at c.regs stack_pointer) i))) []
effect refuses holds c (RaiseSp i) = Next (go_past 2 (put c stack_pointer (sum (reg_at c.regs stack_pointer) i))) []
effect refuses holds c (LowerSp i) = Next (go_past 2 (put c stack_pointer (sum (reg_at c.regs stack_pointer) (2 ^ 32 - i)))) []
effect refuses holds c (Change bytes d m) = Next (go_past 2 (put c d.number (changed bytes (get c m)))) []
effect refuses holds c (Push list lr) = push_effect refuses c (with_bit list lr link_register)
effect refuses holds c (Pop list has_pc) = pop_effect refuses holds c (with_bit list has_pc program_counter) has_pc
effect refuses holds c Cpsie = Next (go_past 2 c) []
effect refuses holds c Cpsid = Next (go_past 2 c) []
effect refuses holds c (Bkpt i) = Trap (breakpoint_fault i)
effect refuses holds c (Hint i) = Next (go_past 2 c) []
effect refuses holds c (Stm n list) = stm_effect refuses c n list
effect refuses holds c (Ldm n list) = ldm_effect refuses holds c n list
effect refuses holds c (BranchIf cond offset) = if holds_if cond c.flags then jump c (target c offset) else Next (go_past 2 c) []
effect refuses holds c (Svc i) = Syscall
effect refuses holds c (Branch offset) = jump c (target c offset)
effect refuses holds c (Bl offset) = Next (put (linked c 4) program_counter (target c offset)) []
effect refuses holds c (Fence barrier i) = Next (go_past 4 c) []
effect refuses holds c (Mrs d) = Next (go_past 4 (put c d.number (apsr c.flags))) []
effect refuses holds c (Msr n) = Next (go_past 4 (with_flags c (flags_from (get c n)))) []

-- ## What an effect does to a processor and a bus

-- A bus after moves, in order; `stored` says what it is after a store, and `taken` what it is after a load.
abbrev pub Moves : {B : Type 0} → (B → ℕ → ℕ → ℕ → B → Type 0) → (B → ℕ → B → Type 0) → B → List Move → B → Type 0
Moves stored taken b [] b' = b' ≡ b
Moves {B} stored taken b (Puts s ∷ ms) b' = (m : B) × stored b s.addr s.bytes s.value m × Moves stored taken m ms b'
Moves {B} stored taken b (Takes addr bytes ∷ ms) b' = (m : B) × taken b addr m × Moves stored taken m ms b'

-- What an effect turns the processor c and the bus b into, and its outcome. A system call and a fault change nothing.
abbrev pub Acts : {B : Type 0} → (B → ℕ → ℕ → ℕ → B → Type 0) → (B → ℕ → B → Type 0) → Cpu → Cpu → B → B → Outcome → Effect → Type 0
Acts stored taken c c' b b' o (Next d ms) = (o ≡ outcome.Next) × (c' ≡ d) × Moves stored taken b ms b'
Acts stored taken c c' b b' o Syscall = (o ≡ outcome.Call) × (c' ≡ c) × (b' ≡ b)
Acts stored taken c c' b b' o (Trap f) = (o ≡ outcome.Trap f) × (c' ≡ c) × (b' ≡ b)

-- The same without a bus, for an effect with no moves.
abbrev pub Effects : Cpu → Cpu → Outcome → Effect → Type 0
Effects c c' o (Next d []) = (o ≡ outcome.Next) × (c' ≡ d)
Effects c c' o (Next d (m ∷ ms)) = ⊥
Effects c c' o Syscall = (o ≡ outcome.Call) × (c' ≡ c)
Effects c c' o (Trap f) = (o ≡ outcome.Trap f) × (c' ≡ c)

-- An effect after which the instruction does not simply go on.
abbrev pub Halts : Effect → Type 0
Halts (Next d ms) = ⊥
Halts Syscall = Unit {0}
Halts (Trap f) = Unit {0}

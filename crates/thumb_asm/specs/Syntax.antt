-- The mnemonics, and the syntaxes of each with their meaning.
use Rattle.std.specs.Prelude.{ℕ, Bool, true, false, nat_eq, nat_le, if◌then◌else◌, List, [], ◌∷◌, map, Option, Some, None, ◌||◌, codes, bytes_eq, ℤ}
use Rattle.thumb_insn.specs.declared.Reg.{Reg}
use Rattle.thumb_insn.specs.declared.Cond.TheVariants as cond
use Rattle.thumb_insn.specs.declared.Shift.{Shift as ShiftKind}
use Rattle.thumb_insn.specs.declared.Size.{Size}
use Rattle.thumb_insn.specs.declared.Op.{Op}
use Rattle.thumb_insn.specs.declared.Shift.TheVariants as shift
use Rattle.thumb_insn.specs.declared.Op.TheVariants as op
use Rattle.thumb_insn.specs.declared.Size.TheVariants as size
use Rattle.thumb_insn.specs.declared.Load.{Load as LoadKind}
use Rattle.thumb_insn.specs.declared.Load.TheVariants as load
use Rattle.thumb_insn.specs.declared.Bytes.TheVariants as bytes
use Rattle.thumb_insn.specs.declared.Barrier.{Barrier}
use Rattle.thumb_insn.specs.declared.Barrier.TheVariants as barrier
use Rattle.thumb_insn.specs.declared.Insn.{Insn}
use Rattle.thumb_insn.specs.declared.Insn.TheVariants as insn
use Rattle.thumb_asm.specs.declared.Mnemonic.{Mnemonic}
use Rattle.thumb_asm.specs.declared.Mnemonic.TheVariants.{Shift, Movs, Adds, Subs, Cmp, Rors, Rsbs, Pair, Add, Sub, Mov, Bx, Blx, Load, Store, Adr, Change, Push, Pop, Cpsie, Cpsid, Bkpt, Hint, Named, Stm, Ldm, BranchIf, Svc, Branch, Bl, Fence, Mrs, Msr, Values, Ascii, Space, Align}
use Rattle.thumb_asm.specs.Chars.{entry_at, lower}
use Rattle.thumb_encode.specs.Codes.{scale}
use Rattle.thumb_asm.specs.Operands.{Operand, Register, Raised, Immediate, Expression, Memory, MemoryRegister, MemoryImmediate, Registers, Quoted, ◌>>=◌}

-- the first syntax that fits
infixl 8 ◌or◌
abbrev pub ◌or◌ : {A : Type 0} → Option A → Option A → Option A
(Some x) or o = Some x
None or o = o

unfoldable pub mnemonics1 : List (List ℕ × Mnemonic)
mnemonics1 = (codes "lsls", Shift shift.Lsl) ∷ (codes "lsrs", Shift shift.Lsr) ∷ (codes "asrs", Shift shift.Asr) ∷ (codes "rors", Rors) ∷ (codes "movs", Movs) ∷ (codes "adds", Adds) ∷ (codes "subs", Subs) ∷ (codes "cmp", Cmp) ∷ (codes "rsbs", Rsbs) ∷ (codes "ands", Pair op.Ands) ∷ (codes "eors", Pair op.Eors) ∷ (codes "adcs", Pair op.Adcs) ∷ []

unfoldable pub mnemonics2 : List (List ℕ × Mnemonic)
mnemonics2 = (codes "sbcs", Pair op.Sbcs) ∷ (codes "tst", Pair op.Tst) ∷ (codes "cmn", Pair op.Cmn) ∷ (codes "orrs", Pair op.Orrs) ∷ (codes "muls", Pair op.Muls) ∷ (codes "bics", Pair op.Bics) ∷ (codes "mvns", Pair op.Mvns) ∷ (codes "add", Add) ∷ (codes "sub", Sub) ∷ (codes "mov", Mov) ∷ (codes "bx", Bx) ∷ (codes "blx", Blx) ∷ []

unfoldable pub mnemonics3 : List (List ℕ × Mnemonic)
mnemonics3 = (codes "ldr", Load (load.Whole size.Word)) ∷ (codes "ldrh", Load (load.Whole size.Half)) ∷ (codes "ldrb", Load (load.Whole size.Byte)) ∷ (codes "ldrsh", Load load.SignedHalf) ∷ (codes "ldrsb", Load load.SignedByte) ∷ (codes "str", Store size.Word) ∷ (codes "strh", Store size.Half) ∷ (codes "strb", Store size.Byte) ∷ (codes "adr", Adr) ∷ (codes "sxth", Change bytes.Sxth) ∷ (codes "sxtb", Change bytes.Sxtb) ∷ (codes "uxth", Change bytes.Uxth) ∷ []

unfoldable pub mnemonics4 : List (List ℕ × Mnemonic)
mnemonics4 = (codes "uxtb", Change bytes.Uxtb) ∷ (codes "rev", Change bytes.Rev) ∷ (codes "rev16", Change bytes.Rev16) ∷ (codes "revsh", Change bytes.Revsh) ∷ (codes "push", Push) ∷ (codes "pop", Pop) ∷ (codes "stm", Stm) ∷ (codes "ldm", Ldm) ∷ (codes "cpsie", Cpsie) ∷ (codes "cpsid", Cpsid) ∷ (codes "bkpt", Bkpt) ∷ (codes "svc", Svc) ∷ []

unfoldable pub mnemonics5 : List (List ℕ × Mnemonic)
mnemonics5 = (codes "hint", Hint) ∷ (codes "nop", Named 0) ∷ (codes "yield", Named 1) ∷ (codes "wfe", Named 2) ∷ (codes "wfi", Named 3) ∷ (codes "sev", Named 4) ∷ (codes "beq", BranchIf cond.Eq) ∷ (codes "bne", BranchIf cond.Ne) ∷ (codes "bcs", BranchIf cond.Cs) ∷ (codes "bcc", BranchIf cond.Cc) ∷ (codes "bmi", BranchIf cond.Mi) ∷ (codes "bpl", BranchIf cond.Pl) ∷ []

unfoldable pub mnemonics6 : List (List ℕ × Mnemonic)
mnemonics6 = (codes "bvs", BranchIf cond.Vs) ∷ (codes "bvc", BranchIf cond.Vc) ∷ (codes "bhi", BranchIf cond.Hi) ∷ (codes "bls", BranchIf cond.Ls) ∷ (codes "bge", BranchIf cond.Ge) ∷ (codes "blt", BranchIf cond.Lt) ∷ (codes "bgt", BranchIf cond.Gt) ∷ (codes "ble", BranchIf cond.Le) ∷ (codes "bhs", BranchIf cond.Cs) ∷ (codes "blo", BranchIf cond.Cc) ∷ (codes "b", Branch) ∷ (codes "bl", Bl) ∷ []

unfoldable pub mnemonics7 : List (List ℕ × Mnemonic)
mnemonics7 = (codes "dsb", Fence barrier.Dsb) ∷ (codes "dmb", Fence barrier.Dmb) ∷ (codes "isb", Fence barrier.Isb) ∷ (codes "mrs", Mrs) ∷ (codes "msr", Msr) ∷ (codes ".byte", Values size.Byte) ∷ (codes ".half", Values size.Half) ∷ (codes ".word", Values size.Word) ∷ (codes ".ascii", Ascii) ∷ (codes ".space", Space) ∷ (codes ".align", Align) ∷ []

-- the mnemonic of a word, in any case
unfoldable pub mnemonic : List ℕ → Option Mnemonic
mnemonic text = let word = map lower text in entry_at mnemonics1 word or entry_at mnemonics2 word or entry_at mnemonics3 word or entry_at mnemonics4 word or entry_at mnemonics5 word or entry_at mnemonics6 word or entry_at mnemonics7 word

-- The shape of a statement, with its expressions as text.
pub data Shape : Type 0 where
  -- an instruction without an expression
  Fixed : Insn → Shape
  -- an instruction with the value of an expression
  Filled : List ℕ → (ℕ → Insn) → Shape
  -- the same for a value that has bounds
  Within : ℕ → ℕ → List ℕ → (ℕ → Insn) → Shape
  -- an instruction with the distance of a target from the address plus 4
  Aimed : List ℕ → (ℤ → Insn) → Shape
  -- the same with the distance from the address plus 4 aligned down to a multiple of 4
  Near : List ℕ → (ℕ → Insn) → Shape
  -- an instruction with another register where only SP is allowed
  Misplaced : Shape
  -- `push` of a list; `pop` if it loads
  Listed : Bool → List (ℕ × ℕ) → Shape
  -- `stm` or `ldm`: a base, whether it is raised, whether the instruction loads, and a list
  Block : Reg → Bool → Bool → List (ℕ × ℕ) → Shape
  -- data: values of k bytes each, text, and zero bytes by number and by alignment
  Data : ℕ → List (List ℕ) → Shape
  Text : List ℕ → Shape
  Zeros : List ℕ → Shape
  Padding : List ℕ → Shape

-- the shape is an instruction, not data
abbrev pub is_insn : Shape → Bool
is_insn (Data k es) = false
is_insn (Text text) = false
is_insn (Zeros e) = false
is_insn (Padding e) = false
is_insn s = true

abbrev pub is_high : ℕ → Bool
is_high r = nat_le 8 r

-- an operand that has to be SP
abbrev pub at_sp : Reg → Shape → Shape
at_sp r s = if nat_eq r.number 13 then s else Misplaced

-- an operand that is a keyword, in upper or lower case
abbrev pub keyword : List ℕ → List ℕ → Shape → Option Shape
keyword text word s = if bytes_eq (map lower text) word then Some s else None

abbrev pub compared : Reg → Reg → Insn
compared n m = if is_high n.number || is_high m.number then insn.CmpHigh n m else insn.Data op.Cmp n m

-- the kinds of operands in a syntax, with their contents
abbrev pub as_register : Operand → Option Reg
as_register (Register r) = Some r
as_register o = None

abbrev pub as_raised : Operand → Option Reg
as_raised (Raised r) = Some r
as_raised o = None

abbrev pub as_immediate : Operand → Option (List ℕ)
as_immediate (Immediate e) = Some e
as_immediate o = None

abbrev pub as_expression : Operand → Option (List ℕ)
as_expression (Expression e) = Some e
as_expression o = None

abbrev pub as_memory : Operand → Option Reg
as_memory (Memory n) = Some n
as_memory o = None

abbrev pub as_memory_register : Operand → Option (Reg × Reg)
as_memory_register (MemoryRegister n m) = Some (n, m)
as_memory_register o = None

abbrev pub as_memory_immediate : Operand → Option (Reg × List ℕ)
as_memory_immediate (MemoryImmediate n e) = Some (n, e)
as_memory_immediate o = None

abbrev pub as_list : Operand → Option (List (ℕ × ℕ))
as_list (Registers rs) = Some rs
as_list o = None

abbrev pub as_quoted : Operand → Option (List ℕ)
as_quoted (Quoted text) = Some text
as_quoted o = None

-- no operand, one, two or three of these kinds
abbrev pub none : List Operand → Option (Unit {0})
none [] = Some tt
none os = None

abbrev pub one : {A : Type 0} → (Operand → Option A) → List Operand → Option A
one f [] = None
one f (a ∷ []) = f a
one f (a ∷ b ∷ os) = None

abbrev pub two : {A B : Type 0} → (Operand → Option A) → (Operand → Option B) → List Operand → Option (A × B)
two f g [] = None
two f g (a ∷ []) = None
two f g (a ∷ b ∷ []) = f a >>= λ x. g b >>= λ y. Some (x, y)
two f g (a ∷ b ∷ c ∷ os) = None

abbrev pub three : {A B C : Type 0} → (Operand → Option A) → (Operand → Option B) → (Operand → Option C) → List Operand → Option (A × B × C)
three f g h [] = None
three f g h (a ∷ []) = None
three f g h (a ∷ b ∷ []) = None
three f g h (a ∷ b ∷ c ∷ []) = f a >>= λ x. g b >>= λ y. h c >>= λ z. Some (x, y, z)
three f g h (a ∷ b ∷ c ∷ d ∷ os) = None

abbrev pub reg_reg : List Operand → Option (Reg × Reg)
reg_reg = two as_register as_register

abbrev pub reg_imm : List Operand → Option (Reg × List ℕ)
reg_imm = two as_register as_immediate

abbrev pub reg_expr : List Operand → Option (Reg × List ℕ)
reg_expr = two as_register as_expression

abbrev pub reg_reg_reg : List Operand → Option (Reg × Reg × Reg)
reg_reg_reg = three as_register as_register as_register

abbrev pub reg_reg_imm : List Operand → Option (Reg × Reg × List ℕ)
reg_reg_imm = three as_register as_register as_immediate

abbrev pub reg_mem : List Operand → Option (Reg × Reg)
reg_mem = two as_register as_memory

abbrev pub reg_mem_reg : List Operand → Option (Reg × (Reg × Reg))
reg_mem_reg = two as_register as_memory_register

abbrev pub reg_mem_imm : List Operand → Option (Reg × (Reg × List ℕ))
reg_mem_imm = two as_register as_memory_immediate

unfoldable pub expressions : List Operand → Option (List (List ℕ))
expressions [] = Some []
expressions (o ∷ os) = as_expression o >>= λ e. expressions os >>= λ es. Some (e ∷ es)

infixl 10 ◌▹◌
abbrev pub ◌▹◌ : {A B : Type 0} → Option A → (A → B) → Option B
(Some x) ▹ f = Some (f x)
None ▹ f = None

-- values of k bytes each, at least one
abbrev pub values : ℕ → List (List ℕ) → Option Shape
values k [] = None
values k (e ∷ es) = Some (Data k (e ∷ es))

-- a store to `[rn, #e]` and a load from it; SP as a base has separate rows
abbrev pub stored : Size → Reg → Reg → (ℕ → Insn)
stored size.Word t n = if nat_eq n.number 13 then insn.StoreSp t else insn.StoreImm size.Word t n
stored size.Half t n = insn.StoreImm size.Half t n
stored size.Byte t n = insn.StoreImm size.Byte t n

abbrev pub loaded : Size → Reg → Reg → (ℕ → Insn)
loaded size.Word t n = if nat_eq n.number 13 then insn.LoadSp t else insn.LoadImm size.Word t n
loaded size.Half t n = insn.LoadImm size.Half t n
loaded size.Byte t n = insn.LoadImm size.Byte t n

-- the upper bound of the count of a shift
abbrev pub top_shift : ShiftKind → ℕ
top_shift shift.Lsl = 31
top_shift shift.Lsr = 32
top_shift shift.Asr = 32

abbrev pub shift_op : ShiftKind → Op
shift_op shift.Lsl = op.Lsls
shift_op shift.Lsr = op.Lsrs
shift_op shift.Asr = op.Asrs

-- a load of a literal, which is a word
abbrev pub literal : Size → List Operand → Option Shape
literal size.Word os = reg_expr os ▹ λ r. Near r.1 (insn.LdrLiteral r.0)
literal size.Half os = None
literal size.Byte os = None

abbrev pub plain_load : LoadKind → List Operand → Option Shape
plain_load (load.Whole s) os =
    (reg_mem_imm os ▹ λ r. Filled r.1.1 (loaded s r.0 r.1.0)) or
    (reg_mem os ▹ λ r. Fixed (loaded s r.0 r.1 0)) or
    literal s os
plain_load load.SignedHalf os = None
plain_load load.SignedByte os = None

-- a barrier, with the operand `sy`
abbrev pub system : Barrier → List Operand → Option Shape
system b os = one as_expression os >>= λ e. keyword e (codes "sy") (Fixed (insn.Fence b 15))

-- One line for each syntax. None: no syntax has these operands.
unfoldable pub shaped : Mnemonic → List Operand → Option Shape
shaped (Shift s) os =
    (three as_register as_register as_immediate os ▹ λ r. Within 1 (top_shift s) r.2 (insn.ShiftImm s r.0 r.1)) or
    (reg_reg os ▹ λ r. Fixed (insn.Data (shift_op s) r.0 r.1))
shaped Rors os = reg_reg os ▹ λ r. Fixed (insn.Data op.Rors r.0 r.1)
shaped Movs os =
    (reg_reg os ▹ λ r. Fixed (insn.ShiftImm shift.Lsl r.0 r.1 0)) or
    (reg_imm os ▹ λ r. Filled r.1 (insn.MovsImm r.0))
shaped Adds os =
    (reg_reg_reg os ▹ λ r. Fixed (insn.AddsReg r.0 r.1 r.2)) or
    (reg_reg_imm os ▹ λ r. Filled r.2 (insn.AddsImm3 r.0 r.1)) or
    (reg_imm os ▹ λ r. Filled r.1 (insn.AddsImm8 r.0))
shaped Subs os =
    (reg_reg_reg os ▹ λ r. Fixed (insn.SubsReg r.0 r.1 r.2)) or
    (reg_reg_imm os ▹ λ r. Filled r.2 (insn.SubsImm3 r.0 r.1)) or
    (reg_imm os ▹ λ r. Filled r.1 (insn.SubsImm8 r.0))
shaped Cmp os =
    (reg_reg os ▹ λ r. Fixed (compared r.0 r.1)) or
    (reg_imm os ▹ λ r. Filled r.1 (insn.CmpImm r.0))
shaped Rsbs os = reg_reg_imm os ▹ λ r. Within 0 0 r.2 (λ i. insn.Data op.Rsbs r.0 r.1)
shaped (Pair o) os = reg_reg os ▹ λ r. Fixed (insn.Data o r.0 r.1)
shaped Add os =
    (reg_reg os ▹ λ r. Fixed (insn.AddHigh r.0 r.1)) or
    (reg_reg_imm os ▹ λ r. at_sp r.1 (Filled r.2 (insn.AddSp r.0))) or
    (reg_imm os ▹ λ r. at_sp r.0 (Filled r.1 insn.RaiseSp))
shaped Sub os = reg_imm os ▹ λ r. at_sp r.0 (Filled r.1 insn.LowerSp)
shaped Mov os = reg_reg os ▹ λ r. Fixed (insn.MovHigh r.0 r.1)
shaped Bx os = one as_register os ▹ λ m. Fixed (insn.Bx m)
shaped Blx os = one as_register os ▹ λ m. Fixed (insn.Blx m)
shaped (Load k) os =
    (reg_mem_reg os ▹ λ r. Fixed (insn.LoadReg k r.0 r.1.0 r.1.1)) or
    plain_load k os
shaped (Store s) os =
    (reg_mem_reg os ▹ λ r. Fixed (insn.StoreReg s r.0 r.1.0 r.1.1)) or
    (reg_mem_imm os ▹ λ r. Filled r.1.1 (stored s r.0 r.1.0)) or
    (reg_mem os ▹ λ r. Fixed (stored s r.0 r.1 0))
shaped Adr os = reg_expr os ▹ λ r. Near r.1 (insn.Adr r.0)
shaped (Change b) os = reg_reg os ▹ λ r. Fixed (insn.Change b r.0 r.1)
shaped Push os = one as_list os ▹ Listed false
shaped Pop os = one as_list os ▹ Listed true
shaped Cpsie os = one as_expression os >>= λ e. keyword e (codes "i") (Fixed insn.Cpsie)
shaped Cpsid os = one as_expression os >>= λ e. keyword e (codes "i") (Fixed insn.Cpsid)
shaped Bkpt os = one as_immediate os ▹ λ e. Filled e insn.Bkpt
shaped Svc os = one as_immediate os ▹ λ e. Filled e insn.Svc
shaped Hint os = one as_immediate os ▹ λ e. Within 5 15 e insn.Hint
shaped (Named h) os = none os ▹ λ u. Fixed (insn.Hint h)
shaped Stm os =
    (two as_raised as_list os ▹ λ r. Block r.0 true false r.1) or
    (two as_register as_list os ▹ λ r. Block r.0 false false r.1)
shaped Ldm os =
    (two as_raised as_list os ▹ λ r. Block r.0 true true r.1) or
    (two as_register as_list os ▹ λ r. Block r.0 false true r.1)
shaped (BranchIf c) os = one as_expression os ▹ λ e. Aimed e (insn.BranchIf c)
shaped Branch os = one as_expression os ▹ λ e. Aimed e insn.Branch
shaped Bl os = one as_expression os ▹ λ e. Aimed e insn.Bl
shaped (Fence b) os =
    (none os ▹ λ u. Fixed (insn.Fence b 15)) or
    system b os or
    (one as_immediate os ▹ λ e. Filled e (insn.Fence b))
shaped Mrs os = reg_expr os >>= λ r. keyword r.1 (codes "apsr") (Fixed (insn.Mrs r.0))
shaped Msr os = two as_expression as_register os >>= λ r. keyword r.0 (codes "apsr") (Fixed (insn.Msr r.1))
shaped (Values s) os = expressions os >>= values (scale s)
shaped Ascii os = one as_quoted os ▹ Text
shaped Space os = one as_expression os ▹ Zeros
shaped Align os = one as_expression os ▹ Padding

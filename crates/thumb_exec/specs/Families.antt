-- The families of instructions. One function executes each family.
use Rattle.thumb_insn.specs.declared.Insn.{Insn}
use Rattle.thumb_insn.specs.declared.Insn.TheVariants.{AddsReg, SubsReg, AddsImm3, SubsImm3, AddsImm8, SubsImm8, CmpImm, CmpHigh, ShiftImm, MovsImm, Data, Change, Mrs, AddHigh, MovHigh, Adr, AddSp, RaiseSp, LowerSp, LdrLiteral, LoadReg, LoadImm, LoadSp, StoreReg, StoreImm, StoreSp, Push, Stm, Ldm, Pop, Svc, Bx, Blx, BranchIf, Branch, Bl, Cpsie, Cpsid, Hint, Fence, Msr}

-- sums and differences
abbrev pub IsSum : Insn → Type 0
IsSum (AddsReg d n m) = Unit {0}
IsSum (SubsReg d n m) = Unit {0}
IsSum (AddsImm3 d n i) = Unit {0}
IsSum (SubsImm3 d n i) = Unit {0}
IsSum (AddsImm8 d i) = Unit {0}
IsSum (SubsImm8 d i) = Unit {0}
IsSum i = ⊥

-- other operations on low registers, immediates or flags
abbrev pub IsData : Insn → Type 0
IsData (ShiftImm shift d m by) = Unit {0}
IsData (MovsImm d i) = Unit {0}
IsData (Data op d m) = Unit {0}
IsData (Change bytes d m) = Unit {0}
IsData (Mrs d) = Unit {0}
IsData (CmpImm n i) = Unit {0}
IsData (CmpHigh n m) = Unit {0}
IsData i = ⊥

-- instructions that read or write SP, PC or a high register, and change no flags
abbrev pub IsAddress : Insn → Type 0
IsAddress (AddHigh d m) = Unit {0}
IsAddress (MovHigh d m) = Unit {0}
IsAddress (Adr d i) = Unit {0}
IsAddress (AddSp d i) = Unit {0}
IsAddress (RaiseSp i) = Unit {0}
IsAddress (LowerSp i) = Unit {0}
IsAddress i = ⊥

-- loads of one unit
abbrev pub IsLoad : Insn → Type 0
IsLoad (LdrLiteral t i) = Unit {0}
IsLoad (LoadReg k t n m) = Unit {0}
IsLoad (LoadImm s t n i) = Unit {0}
IsLoad (LoadSp t i) = Unit {0}
IsLoad i = ⊥

-- stores of one unit
abbrev pub IsStore : Insn → Type 0
IsStore (StoreReg s t n m) = Unit {0}
IsStore (StoreImm s t n i) = Unit {0}
IsStore (StoreSp t i) = Unit {0}
IsStore i = ⊥

-- stores of several words
abbrev pub IsStoreAll : Insn → Type 0
IsStoreAll (Push list lr) = Unit {0}
IsStoreAll (Stm n list) = Unit {0}
IsStoreAll i = ⊥

-- branches by an offset, which always go on
abbrev pub IsBranch : Insn → Type 0
IsBranch (BranchIf cond offset) = Unit {0}
IsBranch (Branch offset) = Unit {0}
IsBranch (Bl offset) = Unit {0}
IsBranch i = ⊥

-- branches to a register
abbrev pub IsJump : Insn → Type 0
IsJump (Bx m) = Unit {0}
IsJump (Blx m) = Unit {0}
IsJump i = ⊥

-- hints, barriers, and the write of the flags from a register
abbrev pub IsSystem : Insn → Type 0
IsSystem Cpsie = Unit {0}
IsSystem Cpsid = Unit {0}
IsSystem (Hint i) = Unit {0}
IsSystem (Fence barrier i) = Unit {0}
IsSystem (Msr n) = Unit {0}
IsSystem i = ⊥

-- branches to a register, and rare instructions
abbrev pub IsRest : Insn → Type 0
IsRest (AddsReg d n m) = ⊥
IsRest (SubsReg d n m) = ⊥
IsRest (AddsImm3 d n i) = ⊥
IsRest (SubsImm3 d n i) = ⊥
IsRest (AddsImm8 d i) = ⊥
IsRest (SubsImm8 d i) = ⊥
IsRest (ShiftImm shift d m by) = ⊥
IsRest (MovsImm d i) = ⊥
IsRest (Data op d m) = ⊥
IsRest (Change bytes d m) = ⊥
IsRest (Mrs d) = ⊥
IsRest (CmpImm n i) = ⊥
IsRest (CmpHigh n m) = ⊥
IsRest (AddHigh d m) = ⊥
IsRest (MovHigh d m) = ⊥
IsRest (Adr d i) = ⊥
IsRest (AddSp d i) = ⊥
IsRest (RaiseSp i) = ⊥
IsRest (LowerSp i) = ⊥
IsRest (LdrLiteral t i) = ⊥
IsRest (LoadReg k t n m) = ⊥
IsRest (LoadImm s t n i) = ⊥
IsRest (LoadSp t i) = ⊥
IsRest (StoreReg s t n m) = ⊥
IsRest (StoreImm s t n i) = ⊥
IsRest (StoreSp t i) = ⊥
IsRest (BranchIf cond offset) = ⊥
IsRest (Branch offset) = ⊥
IsRest (Bl offset) = ⊥
IsRest (Push list lr) = ⊥
IsRest (Stm n list) = ⊥
IsRest (Ldm n list) = ⊥
IsRest (Pop list pc) = ⊥
IsRest (Svc i) = ⊥
IsRest i = Unit {0}

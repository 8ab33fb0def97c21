-- The instruction that the code of an instruction has, for every instruction.
use Rattle.std.proofs.Common.{◌≡◌, Some, None}
use Rattle.thumb_insn.specs.Range.{insn_of}
use Rattle.thumb_insn.specs.declared.Cond.TheVariants as cond
use Rattle.thumb_insn.specs.declared.Shift.TheVariants as shift
use Rattle.thumb_insn.specs.declared.Op.TheVariants as op
use Rattle.thumb_insn.specs.declared.Size.TheVariants as size
use Rattle.thumb_insn.specs.declared.Load.TheVariants as load
use Rattle.thumb_insn.specs.declared.Bytes.TheVariants as bytes
use Rattle.thumb_insn.specs.declared.Insn.{Insn}
use Rattle.thumb_insn.specs.declared.Insn.TheVariants.{ShiftImm, AddsReg, SubsReg, AddsImm3, SubsImm3, MovsImm, CmpImm, AddsImm8, SubsImm8, Data, AddHigh, CmpHigh, MovHigh, Bx, Blx, LdrLiteral, StoreReg, LoadReg, StoreImm, LoadImm, StoreSp, LoadSp, Adr, AddSp, RaiseSp, LowerSp, Change, Push, Pop, Cpsie, Cpsid, Bkpt, Hint, Stm, Ldm, BranchIf, Svc, Branch, Bl, Fence, Mrs, Msr}
use Rattle.thumb_encode.specs.Codes.{fit_of, code_of, HasList}
use Rattle.thumb_insn.specs.declared.Barrier.TheVariants as barrier
use Rattle.thumb_encode.proofs.Wide.{back_bl, back_dsb, back_dmb, back_isb, back_mrs, back_msr}
use Rattle.thumb_encode.proofs.Back.{within, back_0000, back_0800, back_1000, back_1800, back_1a00, back_1c00, back_1e00, back_2000, back_2800, back_3000, back_3800, back_4000, back_4040, back_4080, back_40c0, back_4100, back_4140, back_4180, back_41c0, back_4200, back_4240, back_4280, back_42c0, back_4300, back_4340, back_4380, back_43c0, back_4400, back_4500, back_4600, back_4700, back_4780, back_4800, back_5000, back_5200, back_5400, back_5600, back_5800, back_5a00, back_5c00, back_5e00, back_6000, back_6800, back_7000, back_7800, back_8000, back_8800, back_9000, back_9800, back_a000, back_a800, back_b000, back_b080, back_b200, back_b240, back_b280, back_b2c0, back_b400, back_b662, back_b672, back_ba00, back_ba40, back_bac0, back_bc00, back_be00, back_bf00, back_c000, back_c800, back_d000, back_d100, back_d200, back_d300, back_d400, back_d500, back_d600, back_d700, back_d800, back_d900, back_da00, back_db00, back_dc00, back_dd00, back_df00, back_e000}

pub code_back : (i : Insn) → HasList i → fit_of i ≡ None → insn_of (code_of i) ≡ Some i
code_back (ShiftImm shift.Lsl d m by) l e = back_0000 d m by e
code_back (ShiftImm shift.Lsr d m by) l e = back_0800 d m by e
code_back (ShiftImm shift.Asr d m by) l e = back_1000 d m by e
code_back (AddsReg d n m) l e = back_1800 d n m e
code_back (SubsReg d n m) l e = back_1a00 d n m e
code_back (AddsImm3 d n i) l e = back_1c00 d n i e
code_back (SubsImm3 d n i) l e = back_1e00 d n i e
code_back (MovsImm d i) l e = back_2000 d i e
code_back (CmpImm d i) l e = back_2800 d i e
code_back (AddsImm8 d i) l e = back_3000 d i e
code_back (SubsImm8 d i) l e = back_3800 d i e
code_back (LdrLiteral d i) l e = back_4800 d i e
code_back (StoreSp d i) l e = back_9000 d i e
code_back (LoadSp d i) l e = back_9800 d i e
code_back (Adr d i) l e = back_a000 d i e
code_back (AddSp d i) l e = back_a800 d i e
code_back (Data op.Ands d m) l e = back_4000 d m e
code_back (Data op.Eors d m) l e = back_4040 d m e
code_back (Data op.Lsls d m) l e = back_4080 d m e
code_back (Data op.Lsrs d m) l e = back_40c0 d m e
code_back (Data op.Asrs d m) l e = back_4100 d m e
code_back (Data op.Adcs d m) l e = back_4140 d m e
code_back (Data op.Sbcs d m) l e = back_4180 d m e
code_back (Data op.Rors d m) l e = back_41c0 d m e
code_back (Data op.Tst d m) l e = back_4200 d m e
code_back (Data op.Rsbs d m) l e = back_4240 d m e
code_back (Data op.Cmp d m) l e = back_4280 d m e
code_back (Data op.Cmn d m) l e = back_42c0 d m e
code_back (Data op.Orrs d m) l e = back_4300 d m e
code_back (Data op.Muls d m) l e = back_4340 d m e
code_back (Data op.Bics d m) l e = back_4380 d m e
code_back (Data op.Mvns d m) l e = back_43c0 d m e
code_back (AddHigh d m) l e = back_4400 d m e
code_back (CmpHigh d m) l e = back_4500 d m e
code_back (MovHigh d m) l e = back_4600 d m e
code_back (Bx m) l e = back_4700 m e
code_back (Blx m) l e = back_4780 m e
code_back (StoreReg size.Word t n m) l e = back_5000 t n m e
code_back (StoreReg size.Half t n m) l e = back_5200 t n m e
code_back (StoreReg size.Byte t n m) l e = back_5400 t n m e
code_back (LoadReg load.SignedByte t n m) l e = back_5600 t n m e
code_back (LoadReg (load.Whole size.Word) t n m) l e = back_5800 t n m e
code_back (LoadReg (load.Whole size.Half) t n m) l e = back_5a00 t n m e
code_back (LoadReg (load.Whole size.Byte) t n m) l e = back_5c00 t n m e
code_back (LoadReg load.SignedHalf t n m) l e = back_5e00 t n m e
code_back (StoreImm size.Word t n i) l e = back_6000 t n i e
code_back (LoadImm size.Word t n i) l e = back_6800 t n i e
code_back (StoreImm size.Byte t n i) l e = back_7000 t n i e
code_back (LoadImm size.Byte t n i) l e = back_7800 t n i e
code_back (StoreImm size.Half t n i) l e = back_8000 t n i e
code_back (LoadImm size.Half t n i) l e = back_8800 t n i e
code_back (RaiseSp i) l e = back_b000 i e
code_back (LowerSp i) l e = back_b080 i e
code_back (Bkpt i) l e = back_be00 i e
code_back (Hint i) l e = back_bf00 i e
code_back (Svc i) l e = back_df00 i e
code_back (Change bytes.Sxth d m) l e = back_b200 d m e
code_back (Change bytes.Sxtb d m) l e = back_b240 d m e
code_back (Change bytes.Uxth d m) l e = back_b280 d m e
code_back (Change bytes.Uxtb d m) l e = back_b2c0 d m e
code_back (Change bytes.Rev d m) l e = back_ba00 d m e
code_back (Change bytes.Rev16 d m) l e = back_ba40 d m e
code_back (Change bytes.Revsh d m) l e = back_bac0 d m e
code_back (Push list more) l e = back_b400 list more l e
code_back (Pop list more) l e = back_bc00 list more l e
code_back Cpsie l e = back_b662 e
code_back Cpsid l e = back_b672 e
code_back (Stm n list) l e = back_c000 n list l e
code_back (Ldm n list) l e = back_c800 n list l e
code_back (BranchIf cond.Eq z) l e = back_d000 z e
code_back (BranchIf cond.Ne z) l e = back_d100 z e
code_back (BranchIf cond.Cs z) l e = back_d200 z e
code_back (BranchIf cond.Cc z) l e = back_d300 z e
code_back (BranchIf cond.Mi z) l e = back_d400 z e
code_back (BranchIf cond.Pl z) l e = back_d500 z e
code_back (BranchIf cond.Vs z) l e = back_d600 z e
code_back (BranchIf cond.Vc z) l e = back_d700 z e
code_back (BranchIf cond.Hi z) l e = back_d800 z e
code_back (BranchIf cond.Ls z) l e = back_d900 z e
code_back (BranchIf cond.Ge z) l e = back_da00 z e
code_back (BranchIf cond.Lt z) l e = back_db00 z e
code_back (BranchIf cond.Gt z) l e = back_dc00 z e
code_back (BranchIf cond.Le z) l e = back_dd00 z e
code_back (Branch z) l e = back_e000 z e
code_back (Bl z) l e = back_bl z (within _ _ e)
code_back (Fence barrier.Dsb i) l e = back_dsb i e
code_back (Fence barrier.Dmb i) l e = back_dmb i e
code_back (Fence barrier.Isb i) l e = back_isb i e
code_back (Mrs d) l e = back_mrs d e
code_back (Msr n) l e = back_msr n e

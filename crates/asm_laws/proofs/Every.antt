-- The text of each instruction in range is read as that instruction.
use Rattle.std.proofs.Common.{◌≡◌, ℕ, None}
use Rattle.thumb_insn.specs.declared.Shift.TheVariants as shift
use Rattle.thumb_insn.specs.declared.Insn.{Insn}
use Rattle.thumb_insn.specs.declared.Insn.TheVariants.{ShiftImm, AddsReg, SubsReg, AddsImm3, SubsImm3, MovsImm, CmpImm, AddsImm8, SubsImm8, Data, AddHigh, CmpHigh, MovHigh, Bx, Blx, LdrLiteral, StoreReg, LoadReg, StoreImm, LoadImm, StoreSp, LoadSp, Adr, AddSp, RaiseSp, LowerSp, Change, Push, Pop, Cpsie, Cpsid, Bkpt, Hint, Stm, Ldm, BranchIf, Svc, Branch, Bl, Fence, Mrs, Msr}
use Rattle.thumb_insn.specs.Range.{IsCoded}
use Rattle.thumb_encode.specs.Codes.{fit_of, HasList}
use Rattle.asm_laws.specs.Reading.{HasTarget}
use Rattle.asm_laws.proofs.Shapes.{IsReadSo}
use Rattle.asm_laws.proofs.Coded.{coded_fits, coded_list}
use Rattle.asm_laws.proofs.Lists.{push, pop, stm, ldm}
use Rattle.asm_laws.proofs.Rows.{shift_left, shift_right, shift_signed, adds_reg, subs_reg, adds_few, subs_few, movs_imm, cmp_imm, adds_imm, subs_imm, operate, add_high, cmp_high, mov_high, bx, blx, ldr_near, adr_near, store_reg, load_reg, store_imm, load_imm, store_sp, load_sp, add_sp, sp_add, sp_sub, change, bkpt, svc, fence, cpsie, cpsid, mrs, msr, branch_if, far_b, far_bl, hint}

each : (i : Insn) (at : ℕ) → fit_of i ≡ None → HasList i → HasTarget i at → IsReadSo i at
each (ShiftImm shift.Lsl d m by) at e l h = shift_left at d m by e
each (ShiftImm shift.Lsr d m by) at e l h = shift_right at d m by e
each (ShiftImm shift.Asr d m by) at e l h = shift_signed at d m by e
each (AddsReg d n m) at e l h = adds_reg at d n m e
each (SubsReg d n m) at e l h = subs_reg at d n m e
each (AddsImm3 d n i) at e l h = adds_few at d n i e
each (SubsImm3 d n i) at e l h = subs_few at d n i e
each (MovsImm d i) at e l h = movs_imm at d i e
each (CmpImm n i) at e l h = cmp_imm at n i e
each (AddsImm8 d i) at e l h = adds_imm at d i e
each (SubsImm8 d i) at e l h = subs_imm at d i e
each (Data o d m) at e l h = operate at o d m e
each (AddHigh d m) at e l h = add_high at d m e
each (CmpHigh n m) at e l h = cmp_high at n m e
each (MovHigh d m) at e l h = mov_high at d m e
each (Bx m) at e l h = bx at m e
each (Blx m) at e l h = blx at m e
each (LdrLiteral t i) at e l h = ldr_near at t i e h
each (StoreReg s t n m) at e l h = store_reg at s t n m e
each (LoadReg k t n m) at e l h = load_reg at k t n m e
each (StoreImm s t n i) at e l h = store_imm at s t n i e
each (LoadImm s t n i) at e l h = load_imm at s t n i e
each (StoreSp t i) at e l h = store_sp at t i e
each (LoadSp t i) at e l h = load_sp at t i e
each (Adr d i) at e l h = adr_near at d i e h
each (AddSp d i) at e l h = add_sp at d i e
each (RaiseSp i) at e l h = sp_add at i e
each (LowerSp i) at e l h = sp_sub at i e
each (Change b d m) at e l h = change at b d m e
each (Push list lr) at e l h = push at list lr l e
each (Pop list has) at e l h = pop at list has l e
each Cpsie at e l h = cpsie at
each Cpsid at e l h = cpsid at
each (Bkpt i) at e l h = bkpt at i e
each (Hint i) at e l h = hint at i e
each (Stm n list) at e l h = stm at list n l e
each (Ldm n list) at e l h = ldm at list n l e
each (BranchIf c z) at e l h = branch_if at c z e h
each (Svc i) at e l h = svc at i e
each (Branch z) at e l h = far_b at z e h
each (Bl z) at e l h = far_bl at z e h
each (Fence b i) at e l h = fence at b i e
each (Mrs d) at e l h = mrs at d e
each (Msr n) at e l h = msr at n e

pub every : (i : Insn) (at : ℕ) → IsCoded i → HasTarget i at → IsReadSo i at
every i at c h = each i at (coded_fits i c) (coded_list i c) h

use Rattle.std.proofs.Common.{◌≡◌, refl}
use Rattle.thumb_insn.specs.declared.Insn.{Insn}
use Rattle.thumb_insn.specs.declared.Insn.TheVariants as insn
use Rattle.thumb_exec.specs.Families.{IsRest}
use Rattle.thumb_exec.proofs.step.step.Goals as goal

pub rest-requires-clause-rest : goal.rest-requires-clause-rest
rest-requires-clause-rest g c = by_insn c.args.insn refl
  where
    -- each is one of the above, or of the rest
    by_insn : (i : Insn) → c.args.insn ≡ i → IsRest i
    by_insn (insn.AddsReg d n m) e = absurd (c.in_default.not-AddsReg d n m e)
    by_insn (insn.SubsReg d n m) e = absurd (c.in_default.not-SubsReg d n m e)
    by_insn (insn.AddsImm3 d n i) e = absurd (c.in_default.not-AddsImm3 d n i e)
    by_insn (insn.SubsImm3 d n i) e = absurd (c.in_default.not-SubsImm3 d n i e)
    by_insn (insn.AddsImm8 d i) e = absurd (c.in_default.not-AddsImm8 d i e)
    by_insn (insn.SubsImm8 d i) e = absurd (c.in_default.not-SubsImm8 d i e)
    by_insn (insn.ShiftImm shift d m by) e = absurd (c.in_default.not-ShiftImm shift d m by e)
    by_insn (insn.MovsImm d i) e = absurd (c.in_default.not-MovsImm d i e)
    by_insn (insn.Data op d m) e = absurd (c.in_default.not-Data op d m e)
    by_insn (insn.Change bytes d m) e = absurd (c.in_default.not-Change bytes d m e)
    by_insn (insn.Mrs d) e = absurd (c.in_default.not-Mrs d e)
    by_insn (insn.CmpImm n i) e = absurd (c.in_default.not-CmpImm n i e)
    by_insn (insn.CmpHigh n m) e = absurd (c.in_default.not-CmpHigh n m e)
    by_insn (insn.AddHigh d m) e = absurd (c.in_default.not-AddHigh d m e)
    by_insn (insn.MovHigh d m) e = absurd (c.in_default.not-MovHigh d m e)
    by_insn (insn.Adr d i) e = absurd (c.in_default.not-Adr d i e)
    by_insn (insn.AddSp d i) e = absurd (c.in_default.not-AddSp d i e)
    by_insn (insn.RaiseSp i) e = absurd (c.in_default.not-RaiseSp i e)
    by_insn (insn.LowerSp i) e = absurd (c.in_default.not-LowerSp i e)
    by_insn (insn.LdrLiteral t i) e = absurd (c.in_default.not-LdrLiteral t i e)
    by_insn (insn.LoadReg k t n m) e = absurd (c.in_default.not-LoadReg k t n m e)
    by_insn (insn.LoadImm s t n i) e = absurd (c.in_default.not-LoadImm s t n i e)
    by_insn (insn.LoadSp t i) e = absurd (c.in_default.not-LoadSp t i e)
    by_insn (insn.StoreReg s t n m) e = absurd (c.in_default.not-StoreReg s t n m e)
    by_insn (insn.StoreImm s t n i) e = absurd (c.in_default.not-StoreImm s t n i e)
    by_insn (insn.StoreSp t i) e = absurd (c.in_default.not-StoreSp t i e)
    by_insn (insn.BranchIf cond offset) e = absurd (c.in_default.not-BranchIf cond offset e)
    by_insn (insn.Branch offset) e = absurd (c.in_default.not-Branch offset e)
    by_insn (insn.Bl offset) e = absurd (c.in_default.not-Bl offset e)
    by_insn (insn.Push list lr) e = absurd (c.in_default.not-Push list lr e)
    by_insn (insn.Stm n list) e = absurd (c.in_default.not-Stm n list e)
    by_insn (insn.Bx m) e = tt
    by_insn (insn.Blx m) e = tt
    by_insn (insn.Svc i) e = absurd (c.in_default.not-Svc i e)
    by_insn (insn.Bkpt i) e = tt
    by_insn (insn.Hint i) e = tt
    by_insn (insn.Fence barrier i) e = tt
    by_insn (insn.Msr n) e = tt
    by_insn insn.Cpsie e = tt
    by_insn insn.Cpsid e = tt
    by_insn (insn.Ldm n list) e = absurd (c.in_default.not-Ldm n list e)
    by_insn (insn.Pop list pc) e = absurd (c.in_default.not-Pop list pc e)

use Rattle.std.proofs.Common.{◌≡◌, refl}
use Rattle.thumb_insn.specs.declared.Insn.{Insn}
use Rattle.thumb_insn.specs.declared.Insn.TheVariants as insn
use Rattle.thumb_exec.specs.Families.{IsRest}
use Rattle.thumb_exec.proofs.step.rest.Goals as goal

pub unreachable-requires : goal.unreachable-requires
unreachable-requires c = by_insn c.args.insn refl c.requires.rest
  where
    -- each is one of the above, or none of the rest
    by_insn : (i : Insn) → c.args.insn ≡ i → IsRest i → ⊥
    by_insn (insn.AddsReg d n m) e r = r
    by_insn (insn.SubsReg d n m) e r = r
    by_insn (insn.AddsImm3 d n i) e r = r
    by_insn (insn.SubsImm3 d n i) e r = r
    by_insn (insn.AddsImm8 d i) e r = r
    by_insn (insn.SubsImm8 d i) e r = r
    by_insn (insn.ShiftImm shift d m by) e r = r
    by_insn (insn.MovsImm d i) e r = r
    by_insn (insn.Data op d m) e r = r
    by_insn (insn.Change bytes d m) e r = r
    by_insn (insn.Mrs d) e r = r
    by_insn (insn.CmpImm n i) e r = r
    by_insn (insn.CmpHigh n m) e r = r
    by_insn (insn.AddHigh d m) e r = r
    by_insn (insn.MovHigh d m) e r = r
    by_insn (insn.Adr d i) e r = r
    by_insn (insn.AddSp d i) e r = r
    by_insn (insn.RaiseSp i) e r = r
    by_insn (insn.LowerSp i) e r = r
    by_insn (insn.LdrLiteral t i) e r = r
    by_insn (insn.LoadReg k t n m) e r = r
    by_insn (insn.LoadImm s t n i) e r = r
    by_insn (insn.LoadSp t i) e r = r
    by_insn (insn.StoreReg s t n m) e r = r
    by_insn (insn.StoreImm s t n i) e r = r
    by_insn (insn.StoreSp t i) e r = r
    by_insn (insn.BranchIf cond offset) e r = r
    by_insn (insn.Branch offset) e r = r
    by_insn (insn.Bl offset) e r = r
    by_insn (insn.Push list lr) e r = r
    by_insn (insn.Stm n list) e r = r
    by_insn (insn.Bx m) e r = c.in_default.not-Bx m e
    by_insn (insn.Blx m) e r = c.in_default.not-Blx m e
    by_insn (insn.Svc i) e r = r
    by_insn (insn.Bkpt i) e r = c.in_default.not-Bkpt i e
    by_insn (insn.Hint i) e r = c.in_default.not-Hint i e
    by_insn (insn.Fence barrier i) e r = c.in_default.not-Fence barrier i e
    by_insn (insn.Msr n) e r = c.in_default.not-Msr n e
    by_insn insn.Cpsie e r = c.in_default.not-Cpsie e
    by_insn insn.Cpsid e r = c.in_default.not-Cpsid e
    by_insn (insn.Ldm n list) e r = r
    by_insn (insn.Pop list pc) e r = r

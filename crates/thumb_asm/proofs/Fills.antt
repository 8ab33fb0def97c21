-- Another value does not change the size of an instruction.
use Rattle.thumb_encode.specs.Codes.{insn_size}
use Rattle.std.proofs.Common.{◌≡◌, ℕ, ℤ, pos, refl}
use Rattle.thumb_insn.specs.declared.Insn.{Insn}
use Rattle.thumb_insn.specs.declared.Insn.TheVariants as insn
use Rattle.thumb_asm.specs.Views.{fill, aim}

pub fill_size : (i : Insn) (n : ℕ) → insn_size (fill i 0) ≡ insn_size (fill i n)
fill_size (insn.ShiftImm x y z w) n = refl
fill_size (insn.AddsReg x y z) n = refl
fill_size (insn.SubsReg x y z) n = refl
fill_size (insn.AddsImm3 x y z) n = refl
fill_size (insn.SubsImm3 x y z) n = refl
fill_size (insn.MovsImm x y) n = refl
fill_size (insn.CmpImm x y) n = refl
fill_size (insn.AddsImm8 x y) n = refl
fill_size (insn.SubsImm8 x y) n = refl
fill_size (insn.Data x y z) n = refl
fill_size (insn.AddHigh x y) n = refl
fill_size (insn.CmpHigh x y) n = refl
fill_size (insn.MovHigh x y) n = refl
fill_size (insn.Bx x) n = refl
fill_size (insn.Blx x) n = refl
fill_size (insn.LdrLiteral x y) n = refl
fill_size (insn.StoreReg x y z w) n = refl
fill_size (insn.LoadReg x y z w) n = refl
fill_size (insn.StoreImm x y z w) n = refl
fill_size (insn.LoadImm x y z w) n = refl
fill_size (insn.StoreSp x y) n = refl
fill_size (insn.LoadSp x y) n = refl
fill_size (insn.Adr x y) n = refl
fill_size (insn.AddSp x y) n = refl
fill_size (insn.RaiseSp x) n = refl
fill_size (insn.LowerSp x) n = refl
fill_size (insn.Change x y z) n = refl
fill_size (insn.Push x y) n = refl
fill_size (insn.Pop x y) n = refl
fill_size insn.Cpsie n = refl
fill_size insn.Cpsid n = refl
fill_size (insn.Bkpt x) n = refl
fill_size (insn.Hint x) n = refl
fill_size (insn.Stm x y) n = refl
fill_size (insn.Ldm x y) n = refl
fill_size (insn.BranchIf x y) n = refl
fill_size (insn.Svc x) n = refl
fill_size (insn.Branch x) n = refl
fill_size (insn.Bl x) n = refl
fill_size (insn.Fence x y) n = refl
fill_size (insn.Mrs x) n = refl
fill_size (insn.Msr x) n = refl

pub aim_size : (i : Insn) (n : ℤ) → insn_size (aim i (pos 0)) ≡ insn_size (aim i n)
aim_size (insn.ShiftImm x y z w) n = refl
aim_size (insn.AddsReg x y z) n = refl
aim_size (insn.SubsReg x y z) n = refl
aim_size (insn.AddsImm3 x y z) n = refl
aim_size (insn.SubsImm3 x y z) n = refl
aim_size (insn.MovsImm x y) n = refl
aim_size (insn.CmpImm x y) n = refl
aim_size (insn.AddsImm8 x y) n = refl
aim_size (insn.SubsImm8 x y) n = refl
aim_size (insn.Data x y z) n = refl
aim_size (insn.AddHigh x y) n = refl
aim_size (insn.CmpHigh x y) n = refl
aim_size (insn.MovHigh x y) n = refl
aim_size (insn.Bx x) n = refl
aim_size (insn.Blx x) n = refl
aim_size (insn.LdrLiteral x y) n = refl
aim_size (insn.StoreReg x y z w) n = refl
aim_size (insn.LoadReg x y z w) n = refl
aim_size (insn.StoreImm x y z w) n = refl
aim_size (insn.LoadImm x y z w) n = refl
aim_size (insn.StoreSp x y) n = refl
aim_size (insn.LoadSp x y) n = refl
aim_size (insn.Adr x y) n = refl
aim_size (insn.AddSp x y) n = refl
aim_size (insn.RaiseSp x) n = refl
aim_size (insn.LowerSp x) n = refl
aim_size (insn.Change x y z) n = refl
aim_size (insn.Push x y) n = refl
aim_size (insn.Pop x y) n = refl
aim_size insn.Cpsie n = refl
aim_size insn.Cpsid n = refl
aim_size (insn.Bkpt x) n = refl
aim_size (insn.Hint x) n = refl
aim_size (insn.Stm x y) n = refl
aim_size (insn.Ldm x y) n = refl
aim_size (insn.BranchIf x y) n = refl
aim_size (insn.Svc x) n = refl
aim_size (insn.Branch x) n = refl
aim_size (insn.Bl x) n = refl
aim_size (insn.Fence x y) n = refl
aim_size (insn.Mrs x) n = refl
aim_size (insn.Msr x) n = refl

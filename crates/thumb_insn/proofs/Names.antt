-- No mnemonic has more than five bytes.
use Rattle.std.proofs.Common.{◌≡◌, ◌≤◌, true, refl, length, arith}
use Rattle.std.specs.Prelude.{nat_le}
use Rattle.std.proofs.lemmas.Bool.Decides.{nat_tests}
use Rattle.thumb_insn.specs.declared.Shift.{Shift}
use Rattle.thumb_insn.specs.declared.Shift.TheVariants as shift
use Rattle.thumb_insn.specs.declared.Op.{Op}
use Rattle.thumb_insn.specs.declared.Op.TheVariants as op
use Rattle.thumb_insn.specs.declared.Size.{Size}
use Rattle.thumb_insn.specs.declared.Size.TheVariants as size
use Rattle.thumb_insn.specs.declared.Load.{Load}
use Rattle.thumb_insn.specs.declared.Load.TheVariants as load
use Rattle.thumb_insn.specs.declared.Bytes.{Bytes}
use Rattle.thumb_insn.specs.declared.Bytes.TheVariants as bytes
use Rattle.thumb_insn.specs.declared.Cond.{Cond}
use Rattle.thumb_insn.specs.declared.Cond.TheVariants as cond
use Rattle.thumb_insn.specs.declared.Barrier.{Barrier}
use Rattle.thumb_insn.specs.declared.Barrier.TheVariants as barrier
use Rattle.thumb_insn.specs.declared.mnemonics.Name.{Name}
use Rattle.thumb_insn.specs.declared.mnemonics.Name.TheVariants as name
use Rattle.thumb_insn.specs.Text.{shift_name, op_name, store_name, load_name, change_name, branch_name, barrier_name}
use Rattle.thumb_insn.specs.Line.{name_text}

shift_short : (x : Shift) → nat_le (length (shift_name x)) 5 ≡ true
shift_short shift.Lsl = refl
shift_short shift.Lsr = refl
shift_short shift.Asr = refl

op_short : (x : Op) → nat_le (length (op_name x)) 5 ≡ true
op_short op.Ands = refl
op_short op.Eors = refl
op_short op.Lsls = refl
op_short op.Lsrs = refl
op_short op.Asrs = refl
op_short op.Adcs = refl
op_short op.Sbcs = refl
op_short op.Rors = refl
op_short op.Tst = refl
op_short op.Rsbs = refl
op_short op.Cmp = refl
op_short op.Cmn = refl
op_short op.Orrs = refl
op_short op.Muls = refl
op_short op.Bics = refl
op_short op.Mvns = refl

store_short : (x : Size) → nat_le (length (store_name x)) 5 ≡ true
store_short size.Word = refl
store_short size.Half = refl
store_short size.Byte = refl

load_short : (x : Load) → nat_le (length (load_name x)) 5 ≡ true
load_short (load.Whole size.Word) = refl
load_short (load.Whole size.Half) = refl
load_short (load.Whole size.Byte) = refl
load_short load.SignedHalf = refl
load_short load.SignedByte = refl

change_short : (x : Bytes) → nat_le (length (change_name x)) 5 ≡ true
change_short bytes.Sxth = refl
change_short bytes.Sxtb = refl
change_short bytes.Uxth = refl
change_short bytes.Uxtb = refl
change_short bytes.Rev = refl
change_short bytes.Rev16 = refl
change_short bytes.Revsh = refl

branch_short : (x : Cond) → nat_le (length (branch_name x)) 5 ≡ true
branch_short cond.Eq = refl
branch_short cond.Ne = refl
branch_short cond.Cs = refl
branch_short cond.Cc = refl
branch_short cond.Mi = refl
branch_short cond.Pl = refl
branch_short cond.Vs = refl
branch_short cond.Vc = refl
branch_short cond.Hi = refl
branch_short cond.Ls = refl
branch_short cond.Ge = refl
branch_short cond.Lt = refl
branch_short cond.Gt = refl
branch_short cond.Le = refl

barrier_short : (x : Barrier) → nat_le (length (barrier_name x)) 5 ≡ true
barrier_short barrier.Dsb = refl
barrier_short barrier.Dmb = refl
barrier_short barrier.Isb = refl

name_short : (x : Name) → nat_le (length (name_text x)) 5 ≡ true
name_short name.Movs = refl
name_short name.Adds = refl
name_short name.Subs = refl
name_short name.Add = refl
name_short name.Sub = refl
name_short name.Cmp = refl
name_short name.Mov = refl
name_short name.Bx = refl
name_short name.Blx = refl
name_short name.Ldr = refl
name_short name.Str = refl
name_short name.Adr = refl
name_short name.Push = refl
name_short name.Pop = refl
name_short name.Cpsie = refl
name_short name.Cpsid = refl
name_short name.Bkpt = refl
name_short name.Stm = refl
name_short name.Ldm = refl
name_short name.Svc = refl
name_short name.B = refl
name_short name.Bl = refl
name_short name.Mrs = refl
name_short name.Nop = refl
name_short name.Yield = refl
name_short name.Wfe = refl
name_short name.Wfi = refl
name_short name.Sev = refl
name_short name.Hint = refl
name_short (name.ShiftBy x) = shift_short x
name_short (name.Compute x) = op_short x
name_short (name.StoreOf x) = store_short x
name_short (name.LoadOf x) = load_short x
name_short (name.Change x) = change_short x
name_short (name.BranchIf x) = branch_short x
name_short (name.Fence x) = barrier_short x

pub is_short : (x : Name) → length (name_text x) ≤ 5
is_short x = let e = name_short x in grind (arith, nat_tests)

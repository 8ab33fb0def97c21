-- The text of each instruction is read as that instruction, by the rows of the table.
use Rattle.std.proofs.Common.{◌≡◌, ℕ, zero, suc, ◌+◌, ◌*◌, ◌/◌, ◌<◌, ◌≤◌, List, [], ◌∷◌, refl, ap, arith, Bool, true, false, not, nat_eq, nat_lt, ◌&&◌, ◌||◌, if◌then◌else◌, Some, None, codes, decimal}
use Rattle.std.specs.Prelude.{ℤ, pos, negsuc, ◌+ℤ◌}
use Rattle.std.proofs.lemmas.Bool.{not-false, or_parts}
use Rattle.std.proofs.lemmas.Bool.Decides.{nat_tests}
use Rattle.std.specs.Fmt.{digits}
use Rattle.thumb_insn.specs.Fields.{reg}
use Rattle.thumb_insn.specs.declared.Reg.{Reg}
use Rattle.thumb_insn.specs.declared.Cond.{Cond}
use Rattle.thumb_insn.specs.declared.Cond.TheVariants as cond
use Rattle.thumb_insn.specs.declared.Shift.TheVariants as shift
use Rattle.thumb_insn.specs.declared.Op.{Op}
use Rattle.thumb_insn.specs.declared.Op.TheVariants as op
use Rattle.thumb_insn.specs.declared.Size.{Size}
use Rattle.thumb_insn.specs.declared.Size.TheVariants as size
use Rattle.thumb_insn.specs.declared.Load.{Load}
use Rattle.thumb_insn.specs.declared.Load.TheVariants as load
use Rattle.thumb_insn.specs.declared.Bytes.{Bytes}
use Rattle.thumb_insn.specs.declared.Bytes.TheVariants as bytes
use Rattle.thumb_insn.specs.declared.Barrier.{Barrier}
use Rattle.thumb_insn.specs.declared.Barrier.TheVariants as barrier
use Rattle.thumb_insn.specs.declared.Insn.TheVariants.{ShiftImm, AddsReg, SubsReg, AddsImm3, SubsImm3, MovsImm, CmpImm, AddsImm8, SubsImm8, Data, AddHigh, CmpHigh, MovHigh, Bx, Blx, LdrLiteral, StoreReg, LoadReg, StoreImm, LoadImm, StoreSp, LoadSp, Adr, AddSp, RaiseSp, LowerSp, Change, Cpsie, Cpsid, Bkpt, Hint, BranchIf, Svc, Branch, Bl, Fence, Mrs, Msr}
use Rattle.thumb_insn.specs.Text.{insn_text, line, reg_text, imm}
use Rattle.thumb_encode.specs.Codes.{fit_of, is_high, is_no_register, is, is_no_multiple, outside, is_odd}
use Rattle.thumb_asm.specs.Chars.{entry_at, strip, strip_front, strip_end, until, from_first}
use Rattle.thumb_asm.specs.Parts.{parts, before, after, operand_pieces}
use Rattle.thumb_asm.specs.Operands.{Register, Expression, operands}
use Rattle.thumb_asm.specs.Syntax.{Fixed, Filled, mnemonic, mnemonics1, mnemonics2, mnemonics3, mnemonics4, mnemonics5, mnemonics6, mnemonics7, shaped}
use Rattle.thumb_asm.specs.Sizes.{statement_of, checked, has_bad_count, has_bad_register, has_bad_number, has_bad_list}
use Rattle.thumb_asm.specs.Meaning.{insn_at}
use Rattle.asm_laws.specs.Reading.{IsAddress}
use Rattle.asm_laws.proofs.Operands.{reads_reg, reads_apsr, reads_interrupts}
use Rattle.asm_laws.proofs.Shapes.{IsReadSo, fits, reg_fits, three_false, low, not_above, fixed_ok, fixed_at, IsNear, say}
use Rattle.asm_laws.proofs.Forms.{one_reg, two_regs, three_regs, mem_reg, one_imm, reg_imm, reg_reg_imm, mem_imm, one_within, regs_within, near, aims}

any : (r : Reg) → is_no_register r ≡ false → r.number < 16
any r e = grind (arith, nat_tests)

not_sp : (r : Reg) → is_high r ≡ false → nat_eq r.number 13 ≡ false
not_sp r e = grind (arith, nat_tests)

nonzero : (n : ℕ) → 0 < n → nat_eq n 0 ≡ false
nonzero n h = grind (arith, nat_tests)

pub left_text : (at : ℕ) (d m : Reg) (by : ℕ) → nat_eq by 0 ≡ false → insn_text (ShiftImm shift.Lsl d m by) at ≡ line (codes "lsls") (reg_text d ∷ reg_text m ∷ imm by ∷ [])
unfolding insn_text
left_text at d m by h = ap (λ b. if b then line (codes "movs") (reg_text d ∷ reg_text m ∷ []) else line (codes "lsls") (reg_text d ∷ reg_text m ∷ imm by ∷ [])) h

unequal : (h k : ℕ) → k < h → nat_eq h k ≡ false
unequal h k l = grind (arith, nat_tests)

by_tests : (a b c d e : Bool) (v w x y z t : List ℕ) → a ≡ false → b ≡ false → c ≡ false → d ≡ false → e ≡ false → (if a then v else if b then w else if c then x else if d then y else if e then z else t) ≡ t
by_tests a b c d e v w x y z t f g h i j = rw (f, g, h, i, j) refl

pub hint_text_is : (at h : ℕ) → 5 ≤ h → insn_text (Hint h) at ≡ line (codes "hint") (imm h ∷ [])
unfolding insn_text
hint_text_is at h l = by_tests (nat_eq h 0) (nat_eq h 1) (nat_eq h 2) (nat_eq h 3) (nat_eq h 4) (codes "nop") (codes "yield") (codes "wfe") (codes "wfi") (codes "sev") (line (codes "hint") (imm h ∷ [])) (unequal h 0 (omega arith)) (unequal h 1 (omega arith)) (unequal h 2 (omega arith)) (unequal h 3 (omega arith)) (unequal h 4 (omega arith))

pub shift_left : (at : ℕ) (d m : Reg) (by : ℕ) → fit_of (ShiftImm shift.Lsl d m by) ≡ None → IsReadSo (ShiftImm shift.Lsl d m by) at
unfolding insn_text mnemonic mnemonics1 mnemonics2 mnemonics3 mnemonics4 mnemonics5 mnemonics6 mnemonics7 entry_at shaped
shift_left at d m zero e = let f = fits (is_high d || is_high m) (nat_lt 31 0) false e in let l = or_parts (is_high d) (is_high m) f.0 in two_regs (ShiftImm shift.Lsl d m 0) at (codes "movs") d m refl refl refl refl e (low d l.0) (low m l.1)
shift_left at d m (suc k) e = let f = fits (is_high d || is_high m) (nat_lt 31 (suc k)) false e in let l = or_parts (is_high d) (is_high m) f.0 in let b : suc k ≤ 31 = grind (arith, nat_tests) in regs_within 1 31 (ShiftImm shift.Lsl d m) at (codes "lsls") d m (suc k) (left_text at d m (suc k) (nonzero (suc k) (omega arith))) refl refl refl e (reg_fits (is_high d || is_high m) (nat_lt 31 (suc k)) false (nat_lt 31 0) false e) (low d l.0) (low m l.1) (omega arith) b (omega arith)

pub shift_right : (at : ℕ) (d m : Reg) (by : ℕ) → fit_of (ShiftImm shift.Lsr d m by) ≡ None → IsReadSo (ShiftImm shift.Lsr d m by) at
unfolding insn_text mnemonic mnemonics1 mnemonics2 mnemonics3 mnemonics4 mnemonics5 mnemonics6 mnemonics7 entry_at shaped
shift_right at d m by e = let f = fits (is_high d || is_high m) (nat_eq by 0 || nat_lt 32 by) false e in let l = or_parts (is_high d) (is_high m) f.0 in let g = or_parts (nat_eq by 0) (nat_lt 32 by) f.1 in let a : 1 ≤ by = grind (arith, nat_tests) in let b : by ≤ 32 = grind (arith, nat_tests) in regs_within 1 32 (ShiftImm shift.Lsr d m) at (codes "lsrs") d m by refl refl refl refl e (reg_fits (is_high d || is_high m) (nat_eq by 0 || nat_lt 32 by) false (nat_eq 0 0 || nat_lt 32 0) false e) (low d l.0) (low m l.1) a b (omega arith)

pub shift_signed : (at : ℕ) (d m : Reg) (by : ℕ) → fit_of (ShiftImm shift.Asr d m by) ≡ None → IsReadSo (ShiftImm shift.Asr d m by) at
unfolding insn_text mnemonic mnemonics1 mnemonics2 mnemonics3 mnemonics4 mnemonics5 mnemonics6 mnemonics7 entry_at shaped
shift_signed at d m by e = let f = fits (is_high d || is_high m) (nat_eq by 0 || nat_lt 32 by) false e in let l = or_parts (is_high d) (is_high m) f.0 in let g = or_parts (nat_eq by 0) (nat_lt 32 by) f.1 in let a : 1 ≤ by = grind (arith, nat_tests) in let b : by ≤ 32 = grind (arith, nat_tests) in regs_within 1 32 (ShiftImm shift.Asr d m) at (codes "asrs") d m by refl refl refl refl e (reg_fits (is_high d || is_high m) (nat_eq by 0 || nat_lt 32 by) false (nat_eq 0 0 || nat_lt 32 0) false e) (low d l.0) (low m l.1) a b (omega arith)

pub adds_reg : (at : ℕ) (d n m : Reg) → fit_of (AddsReg d n m) ≡ None → IsReadSo (AddsReg d n m) at
unfolding insn_text mnemonic mnemonics1 mnemonics2 mnemonics3 mnemonics4 mnemonics5 mnemonics6 mnemonics7 entry_at shaped
adds_reg at d n m e = let f = fits (is_high d || is_high n || is_high m) false false e in let l = three_false (is_high d) (is_high n) (is_high m) f.0 in three_regs (AddsReg d n m) at (codes "adds") d n m refl refl refl refl e (low d l.0) (low n l.1) (low m l.2)

pub subs_reg : (at : ℕ) (d n m : Reg) → fit_of (SubsReg d n m) ≡ None → IsReadSo (SubsReg d n m) at
unfolding insn_text mnemonic mnemonics1 mnemonics2 mnemonics3 mnemonics4 mnemonics5 mnemonics6 mnemonics7 entry_at shaped
subs_reg at d n m e = let f = fits (is_high d || is_high n || is_high m) false false e in let l = three_false (is_high d) (is_high n) (is_high m) f.0 in three_regs (SubsReg d n m) at (codes "subs") d n m refl refl refl refl e (low d l.0) (low n l.1) (low m l.2)

pub adds_few : (at : ℕ) (d n : Reg) (i : ℕ) → fit_of (AddsImm3 d n i) ≡ None → IsReadSo (AddsImm3 d n i) at
unfolding insn_text mnemonic mnemonics1 mnemonics2 mnemonics3 mnemonics4 mnemonics5 mnemonics6 mnemonics7 entry_at shaped
adds_few at d n i e = let f = fits (is_high d || is_high n) (nat_lt 7 i) false e in let l = or_parts (is_high d) (is_high n) f.0 in reg_reg_imm (AddsImm3 d n) at (codes "adds") d n i refl refl refl refl e (reg_fits (is_high d || is_high n) (nat_lt 7 i) false (nat_lt 7 0) false e) (low d l.0) (low n l.1) (not_above 7 i 1024 f.1 (omega arith))

pub subs_few : (at : ℕ) (d n : Reg) (i : ℕ) → fit_of (SubsImm3 d n i) ≡ None → IsReadSo (SubsImm3 d n i) at
unfolding insn_text mnemonic mnemonics1 mnemonics2 mnemonics3 mnemonics4 mnemonics5 mnemonics6 mnemonics7 entry_at shaped
subs_few at d n i e = let f = fits (is_high d || is_high n) (nat_lt 7 i) false e in let l = or_parts (is_high d) (is_high n) f.0 in reg_reg_imm (SubsImm3 d n) at (codes "subs") d n i refl refl refl refl e (reg_fits (is_high d || is_high n) (nat_lt 7 i) false (nat_lt 7 0) false e) (low d l.0) (low n l.1) (not_above 7 i 1024 f.1 (omega arith))

pub movs_imm : (at : ℕ) (d : Reg) (i : ℕ) → fit_of (MovsImm d i) ≡ None → IsReadSo (MovsImm d i) at
unfolding insn_text mnemonic mnemonics1 mnemonics2 mnemonics3 mnemonics4 mnemonics5 mnemonics6 mnemonics7 entry_at shaped
movs_imm at d i e = let f = fits (is_high d) (nat_lt 255 i) false e in reg_imm (MovsImm d) at (codes "movs") d i refl refl refl refl e (reg_fits (is_high d) (nat_lt 255 i) false (nat_lt 255 0) false e) (low d f.0) (not_above 255 i 1024 f.1 (omega arith))

pub cmp_imm : (at : ℕ) (d : Reg) (i : ℕ) → fit_of (CmpImm d i) ≡ None → IsReadSo (CmpImm d i) at
unfolding insn_text mnemonic mnemonics1 mnemonics2 mnemonics3 mnemonics4 mnemonics5 mnemonics6 mnemonics7 entry_at shaped
cmp_imm at d i e = let f = fits (is_high d) (nat_lt 255 i) false e in reg_imm (CmpImm d) at (codes "cmp") d i refl refl refl refl e (reg_fits (is_high d) (nat_lt 255 i) false (nat_lt 255 0) false e) (low d f.0) (not_above 255 i 1024 f.1 (omega arith))

pub adds_imm : (at : ℕ) (d : Reg) (i : ℕ) → fit_of (AddsImm8 d i) ≡ None → IsReadSo (AddsImm8 d i) at
unfolding insn_text mnemonic mnemonics1 mnemonics2 mnemonics3 mnemonics4 mnemonics5 mnemonics6 mnemonics7 entry_at shaped
adds_imm at d i e = let f = fits (is_high d) (nat_lt 255 i) false e in reg_imm (AddsImm8 d) at (codes "adds") d i refl refl refl refl e (reg_fits (is_high d) (nat_lt 255 i) false (nat_lt 255 0) false e) (low d f.0) (not_above 255 i 1024 f.1 (omega arith))

pub subs_imm : (at : ℕ) (d : Reg) (i : ℕ) → fit_of (SubsImm8 d i) ≡ None → IsReadSo (SubsImm8 d i) at
unfolding insn_text mnemonic mnemonics1 mnemonics2 mnemonics3 mnemonics4 mnemonics5 mnemonics6 mnemonics7 entry_at shaped
subs_imm at d i e = let f = fits (is_high d) (nat_lt 255 i) false e in reg_imm (SubsImm8 d) at (codes "subs") d i refl refl refl refl e (reg_fits (is_high d) (nat_lt 255 i) false (nat_lt 255 0) false e) (low d f.0) (not_above 255 i 1024 f.1 (omega arith))

pub operate : (at : ℕ) (o : Op) (d m : Reg) → fit_of (Data o d m) ≡ None → IsReadSo (Data o d m) at
unfolding insn_text mnemonic mnemonics1 mnemonics2 mnemonics3 mnemonics4 mnemonics5 mnemonics6 mnemonics7 entry_at shaped
operate at op.Ands d m e = let f = fits (is_high d || is_high m) false false e in let l = or_parts (is_high d) (is_high m) f.0 in two_regs (Data op.Ands d m) at (codes "ands") d m refl refl refl refl e (low d l.0) (low m l.1)
operate at op.Eors d m e = let f = fits (is_high d || is_high m) false false e in let l = or_parts (is_high d) (is_high m) f.0 in two_regs (Data op.Eors d m) at (codes "eors") d m refl refl refl refl e (low d l.0) (low m l.1)
operate at op.Lsls d m e = let f = fits (is_high d || is_high m) false false e in let l = or_parts (is_high d) (is_high m) f.0 in two_regs (Data op.Lsls d m) at (codes "lsls") d m refl refl refl refl e (low d l.0) (low m l.1)
operate at op.Lsrs d m e = let f = fits (is_high d || is_high m) false false e in let l = or_parts (is_high d) (is_high m) f.0 in two_regs (Data op.Lsrs d m) at (codes "lsrs") d m refl refl refl refl e (low d l.0) (low m l.1)
operate at op.Asrs d m e = let f = fits (is_high d || is_high m) false false e in let l = or_parts (is_high d) (is_high m) f.0 in two_regs (Data op.Asrs d m) at (codes "asrs") d m refl refl refl refl e (low d l.0) (low m l.1)
operate at op.Adcs d m e = let f = fits (is_high d || is_high m) false false e in let l = or_parts (is_high d) (is_high m) f.0 in two_regs (Data op.Adcs d m) at (codes "adcs") d m refl refl refl refl e (low d l.0) (low m l.1)
operate at op.Sbcs d m e = let f = fits (is_high d || is_high m) false false e in let l = or_parts (is_high d) (is_high m) f.0 in two_regs (Data op.Sbcs d m) at (codes "sbcs") d m refl refl refl refl e (low d l.0) (low m l.1)
operate at op.Rors d m e = let f = fits (is_high d || is_high m) false false e in let l = or_parts (is_high d) (is_high m) f.0 in two_regs (Data op.Rors d m) at (codes "rors") d m refl refl refl refl e (low d l.0) (low m l.1)
operate at op.Tst d m e = let f = fits (is_high d || is_high m) false false e in let l = or_parts (is_high d) (is_high m) f.0 in two_regs (Data op.Tst d m) at (codes "tst") d m refl refl refl refl e (low d l.0) (low m l.1)
operate at op.Rsbs d m e = let f = fits (is_high d || is_high m) false false e in let l = or_parts (is_high d) (is_high m) f.0 in regs_within 0 0 (λ i. Data op.Rsbs d m) at (codes "rsbs") d m 0 refl refl refl refl e (reg_fits (is_high d || is_high m) false false false false e) (low d l.0) (low m l.1) (omega arith) (omega arith) (omega arith)
operate at op.Cmp d m e = let f = fits (is_high d || is_high m) false false e in let l = or_parts (is_high d) (is_high m) f.0 in two_regs (Data op.Cmp d m) at (codes "cmp") d m refl refl refl (ap (λ b. Some (Fixed (if b then CmpHigh d m else Data op.Cmp d m))) f.0) e (low d l.0) (low m l.1)
operate at op.Cmn d m e = let f = fits (is_high d || is_high m) false false e in let l = or_parts (is_high d) (is_high m) f.0 in two_regs (Data op.Cmn d m) at (codes "cmn") d m refl refl refl refl e (low d l.0) (low m l.1)
operate at op.Orrs d m e = let f = fits (is_high d || is_high m) false false e in let l = or_parts (is_high d) (is_high m) f.0 in two_regs (Data op.Orrs d m) at (codes "orrs") d m refl refl refl refl e (low d l.0) (low m l.1)
operate at op.Muls d m e = let f = fits (is_high d || is_high m) false false e in let l = or_parts (is_high d) (is_high m) f.0 in two_regs (Data op.Muls d m) at (codes "muls") d m refl refl refl refl e (low d l.0) (low m l.1)
operate at op.Bics d m e = let f = fits (is_high d || is_high m) false false e in let l = or_parts (is_high d) (is_high m) f.0 in two_regs (Data op.Bics d m) at (codes "bics") d m refl refl refl refl e (low d l.0) (low m l.1)
operate at op.Mvns d m e = let f = fits (is_high d || is_high m) false false e in let l = or_parts (is_high d) (is_high m) f.0 in two_regs (Data op.Mvns d m) at (codes "mvns") d m refl refl refl refl e (low d l.0) (low m l.1)

five_false : (a b c d e : Bool) → (a || b || c || d || e) ≡ false → (a ≡ false) × (b ≡ false) × (c ≡ false) × (d ≡ false) × (e ≡ false)
five_false true b c d e h = cc
five_false false true c d e h = cc
five_false false false true d e h = cc
five_false false false false true e h = cc
five_false false false false false e h = (refl, refl, refl, refl, h)

pub add_high : (at : ℕ) (d m : Reg) → fit_of (AddHigh d m) ≡ None → IsReadSo (AddHigh d m) at
unfolding insn_text mnemonic mnemonics1 mnemonics2 mnemonics3 mnemonics4 mnemonics5 mnemonics6 mnemonics7 entry_at shaped
add_high at d m e = let f = fits (is_no_register d || is_no_register m || (is d 15 && is m 15)) false false e in let l = three_false (is_no_register d) (is_no_register m) (is d 15 && is m 15) f.0 in two_regs (AddHigh d m) at (codes "add") d m refl refl refl refl e (any d l.0) (any m l.1)

pub cmp_high : (at : ℕ) (n m : Reg) → fit_of (CmpHigh n m) ≡ None → IsReadSo (CmpHigh n m) at
unfolding insn_text mnemonic mnemonics1 mnemonics2 mnemonics3 mnemonics4 mnemonics5 mnemonics6 mnemonics7 entry_at shaped
cmp_high at n m e = let f = fits (is_no_register n || is_no_register m || (not (is_high n || is_high m)) || is n 15 || is m 15) false false e in let l = five_false (is_no_register n) (is_no_register m) (not (is_high n || is_high m)) (is n 15) (is m 15) f.0 in two_regs (CmpHigh n m) at (codes "cmp") n m refl refl refl (ap (λ b. Some (Fixed (if b then CmpHigh n m else Data op.Cmp n m))) (not-false _ l.2)) e (any n l.0) (any m l.1)

pub mov_high : (at : ℕ) (d m : Reg) → fit_of (MovHigh d m) ≡ None → IsReadSo (MovHigh d m) at
unfolding insn_text mnemonic mnemonics1 mnemonics2 mnemonics3 mnemonics4 mnemonics5 mnemonics6 mnemonics7 entry_at shaped
mov_high at d m e = let f = fits (is_no_register d || is_no_register m) false false e in let l = or_parts (is_no_register d) (is_no_register m) f.0 in two_regs (MovHigh d m) at (codes "mov") d m refl refl refl refl e (any d l.0) (any m l.1)

pub bx : (at : ℕ) (m : Reg) → fit_of (Bx m) ≡ None → IsReadSo (Bx m) at
unfolding insn_text mnemonic mnemonics1 mnemonics2 mnemonics3 mnemonics4 mnemonics5 mnemonics6 mnemonics7 entry_at shaped
bx at m e = let f = fits (is_no_register m || is m 15) false false e in let l = or_parts (is_no_register m) (is m 15) f.0 in one_reg (Bx m) at (codes "bx") m refl refl refl refl e (any m l.0)

pub blx : (at : ℕ) (m : Reg) → fit_of (Blx m) ≡ None → IsReadSo (Blx m) at
unfolding insn_text mnemonic mnemonics1 mnemonics2 mnemonics3 mnemonics4 mnemonics5 mnemonics6 mnemonics7 entry_at shaped
blx at m e = let f = fits (is_no_register m || is m 15) false false e in let l = or_parts (is_no_register m) (is m 15) f.0 in one_reg (Blx m) at (codes "blx") m refl refl refl refl e (any m l.0)

pub ldr_near : (at : ℕ) (d : Reg) (i : ℕ) → fit_of (LdrLiteral d i) ≡ None → (at + 4) / 4 * 4 + i < 4294967296 → IsReadSo (LdrLiteral d i) at
unfolding insn_text mnemonic mnemonics1 mnemonics2 mnemonics3 mnemonics4 mnemonics5 mnemonics6 mnemonics7 entry_at shaped
ldr_near at d i e h = let f = fits (is_high d) (nat_lt 1020 i) (is_no_multiple i 4) e in near (LdrLiteral d) at (codes "ldr") d i refl refl refl refl e (reg_fits (is_high d) (nat_lt 1020 i) (is_no_multiple i 4) (nat_lt 1020 0) (is_no_multiple 0 4) e) (low d f.0) (not_above 1020 i 1024 f.1 (omega arith)) h

pub adr_near : (at : ℕ) (d : Reg) (i : ℕ) → fit_of (Adr d i) ≡ None → (at + 4) / 4 * 4 + i < 4294967296 → IsReadSo (Adr d i) at
unfolding insn_text mnemonic mnemonics1 mnemonics2 mnemonics3 mnemonics4 mnemonics5 mnemonics6 mnemonics7 entry_at shaped
adr_near at d i e h = let f = fits (is_high d) (nat_lt 1020 i) (is_no_multiple i 4) e in near (Adr d) at (codes "adr") d i refl refl refl refl e (reg_fits (is_high d) (nat_lt 1020 i) (is_no_multiple i 4) (nat_lt 1020 0) (is_no_multiple 0 4) e) (low d f.0) (not_above 1020 i 1024 f.1 (omega arith)) h

pub store_reg : (at : ℕ) (s : Size) (t n m : Reg) → fit_of (StoreReg s t n m) ≡ None → IsReadSo (StoreReg s t n m) at
unfolding insn_text mnemonic mnemonics1 mnemonics2 mnemonics3 mnemonics4 mnemonics5 mnemonics6 mnemonics7 entry_at shaped
store_reg at size.Word t n m e = let f = fits (is_high t || is_high n || is_high m) false false e in let l = three_false (is_high t) (is_high n) (is_high m) f.0 in mem_reg (StoreReg size.Word t n m) at (codes "str") t n m refl refl refl refl e (low t l.0) (low n l.1) (low m l.2)
store_reg at size.Half t n m e = let f = fits (is_high t || is_high n || is_high m) false false e in let l = three_false (is_high t) (is_high n) (is_high m) f.0 in mem_reg (StoreReg size.Half t n m) at (codes "strh") t n m refl refl refl refl e (low t l.0) (low n l.1) (low m l.2)
store_reg at size.Byte t n m e = let f = fits (is_high t || is_high n || is_high m) false false e in let l = three_false (is_high t) (is_high n) (is_high m) f.0 in mem_reg (StoreReg size.Byte t n m) at (codes "strb") t n m refl refl refl refl e (low t l.0) (low n l.1) (low m l.2)

pub load_reg : (at : ℕ) (k : Load) (t n m : Reg) → fit_of (LoadReg k t n m) ≡ None → IsReadSo (LoadReg k t n m) at
unfolding insn_text mnemonic mnemonics1 mnemonics2 mnemonics3 mnemonics4 mnemonics5 mnemonics6 mnemonics7 entry_at shaped
load_reg at (load.Whole size.Word) t n m e = let f = fits (is_high t || is_high n || is_high m) false false e in let l = three_false (is_high t) (is_high n) (is_high m) f.0 in mem_reg (LoadReg (load.Whole size.Word) t n m) at (codes "ldr") t n m refl refl refl refl e (low t l.0) (low n l.1) (low m l.2)
load_reg at (load.Whole size.Half) t n m e = let f = fits (is_high t || is_high n || is_high m) false false e in let l = three_false (is_high t) (is_high n) (is_high m) f.0 in mem_reg (LoadReg (load.Whole size.Half) t n m) at (codes "ldrh") t n m refl refl refl refl e (low t l.0) (low n l.1) (low m l.2)
load_reg at (load.Whole size.Byte) t n m e = let f = fits (is_high t || is_high n || is_high m) false false e in let l = three_false (is_high t) (is_high n) (is_high m) f.0 in mem_reg (LoadReg (load.Whole size.Byte) t n m) at (codes "ldrb") t n m refl refl refl refl e (low t l.0) (low n l.1) (low m l.2)
load_reg at load.SignedHalf t n m e = let f = fits (is_high t || is_high n || is_high m) false false e in let l = three_false (is_high t) (is_high n) (is_high m) f.0 in mem_reg (LoadReg load.SignedHalf t n m) at (codes "ldrsh") t n m refl refl refl refl e (low t l.0) (low n l.1) (low m l.2)
load_reg at load.SignedByte t n m e = let f = fits (is_high t || is_high n || is_high m) false false e in let l = three_false (is_high t) (is_high n) (is_high m) f.0 in mem_reg (LoadReg load.SignedByte t n m) at (codes "ldrsb") t n m refl refl refl refl e (low t l.0) (low n l.1) (low m l.2)

pub store_imm : (at : ℕ) (s : Size) (t n : Reg) (i : ℕ) → fit_of (StoreImm s t n i) ≡ None → IsReadSo (StoreImm s t n i) at
unfolding insn_text mnemonic mnemonics1 mnemonics2 mnemonics3 mnemonics4 mnemonics5 mnemonics6 mnemonics7 entry_at shaped
store_imm at size.Word t n i e = let f = fits (is_high t || is_high n) (nat_lt 124 i) (is_no_multiple i 4) e in let l = or_parts (is_high t) (is_high n) f.0 in mem_imm (StoreImm size.Word t n) at (codes "str") t n i refl refl refl (ap (λ b. Some (Filled (decimal i) (if b then StoreSp t else StoreImm size.Word t n))) (not_sp n l.1)) e (reg_fits (is_high t || is_high n) (nat_lt 124 i) (is_no_multiple i 4) (nat_lt 124 0) (is_no_multiple 0 4) e) (low t l.0) (low n l.1) (not_above 124 i 1024 f.1 (omega arith))
store_imm at size.Half t n i e = let f = fits (is_high t || is_high n) (nat_lt 62 i) (is_no_multiple i 2) e in let l = or_parts (is_high t) (is_high n) f.0 in mem_imm (StoreImm size.Half t n) at (codes "strh") t n i refl refl refl refl e (reg_fits (is_high t || is_high n) (nat_lt 62 i) (is_no_multiple i 2) (nat_lt 62 0) (is_no_multiple 0 2) e) (low t l.0) (low n l.1) (not_above 62 i 1024 f.1 (omega arith))
store_imm at size.Byte t n i e = let f = fits (is_high t || is_high n) (nat_lt 31 i) (is_no_multiple i 1) e in let l = or_parts (is_high t) (is_high n) f.0 in mem_imm (StoreImm size.Byte t n) at (codes "strb") t n i refl refl refl refl e (reg_fits (is_high t || is_high n) (nat_lt 31 i) (is_no_multiple i 1) (nat_lt 31 0) (is_no_multiple 0 1) e) (low t l.0) (low n l.1) (not_above 31 i 1024 f.1 (omega arith))

pub store_sp : (at : ℕ) (t : Reg) (i : ℕ) → fit_of (StoreSp t i) ≡ None → IsReadSo (StoreSp t i) at
unfolding insn_text mnemonic mnemonics1 mnemonics2 mnemonics3 mnemonics4 mnemonics5 mnemonics6 mnemonics7 entry_at shaped
store_sp at t i e = let f = fits (is_high t) (nat_lt 1020 i) (is_no_multiple i 4) e in mem_imm (StoreSp t) at (codes "str") t (reg 13) i refl refl refl refl e (reg_fits (is_high t) (nat_lt 1020 i) (is_no_multiple i 4) (nat_lt 1020 0) (is_no_multiple 0 4) e) (low t f.0) (omega arith) (not_above 1020 i 1024 f.1 (omega arith))

pub load_imm : (at : ℕ) (s : Size) (t n : Reg) (i : ℕ) → fit_of (LoadImm s t n i) ≡ None → IsReadSo (LoadImm s t n i) at
unfolding insn_text mnemonic mnemonics1 mnemonics2 mnemonics3 mnemonics4 mnemonics5 mnemonics6 mnemonics7 entry_at shaped
load_imm at size.Word t n i e = let f = fits (is_high t || is_high n) (nat_lt 124 i) (is_no_multiple i 4) e in let l = or_parts (is_high t) (is_high n) f.0 in mem_imm (LoadImm size.Word t n) at (codes "ldr") t n i refl refl refl (ap (λ b. Some (Filled (decimal i) (if b then LoadSp t else LoadImm size.Word t n))) (not_sp n l.1)) e (reg_fits (is_high t || is_high n) (nat_lt 124 i) (is_no_multiple i 4) (nat_lt 124 0) (is_no_multiple 0 4) e) (low t l.0) (low n l.1) (not_above 124 i 1024 f.1 (omega arith))
load_imm at size.Half t n i e = let f = fits (is_high t || is_high n) (nat_lt 62 i) (is_no_multiple i 2) e in let l = or_parts (is_high t) (is_high n) f.0 in mem_imm (LoadImm size.Half t n) at (codes "ldrh") t n i refl refl refl refl e (reg_fits (is_high t || is_high n) (nat_lt 62 i) (is_no_multiple i 2) (nat_lt 62 0) (is_no_multiple 0 2) e) (low t l.0) (low n l.1) (not_above 62 i 1024 f.1 (omega arith))
load_imm at size.Byte t n i e = let f = fits (is_high t || is_high n) (nat_lt 31 i) (is_no_multiple i 1) e in let l = or_parts (is_high t) (is_high n) f.0 in mem_imm (LoadImm size.Byte t n) at (codes "ldrb") t n i refl refl refl refl e (reg_fits (is_high t || is_high n) (nat_lt 31 i) (is_no_multiple i 1) (nat_lt 31 0) (is_no_multiple 0 1) e) (low t l.0) (low n l.1) (not_above 31 i 1024 f.1 (omega arith))

pub load_sp : (at : ℕ) (t : Reg) (i : ℕ) → fit_of (LoadSp t i) ≡ None → IsReadSo (LoadSp t i) at
unfolding insn_text mnemonic mnemonics1 mnemonics2 mnemonics3 mnemonics4 mnemonics5 mnemonics6 mnemonics7 entry_at shaped
load_sp at t i e = let f = fits (is_high t) (nat_lt 1020 i) (is_no_multiple i 4) e in mem_imm (LoadSp t) at (codes "ldr") t (reg 13) i refl refl refl refl e (reg_fits (is_high t) (nat_lt 1020 i) (is_no_multiple i 4) (nat_lt 1020 0) (is_no_multiple 0 4) e) (low t f.0) (omega arith) (not_above 1020 i 1024 f.1 (omega arith))

pub add_sp : (at : ℕ) (d : Reg) (i : ℕ) → fit_of (AddSp d i) ≡ None → IsReadSo (AddSp d i) at
unfolding insn_text mnemonic mnemonics1 mnemonics2 mnemonics3 mnemonics4 mnemonics5 mnemonics6 mnemonics7 entry_at shaped
add_sp at d i e = let f = fits (is_high d) (nat_lt 1020 i) (is_no_multiple i 4) e in reg_reg_imm (AddSp d) at (codes "add") d (reg 13) i refl refl refl refl e (reg_fits (is_high d) (nat_lt 1020 i) (is_no_multiple i 4) (nat_lt 1020 0) (is_no_multiple 0 4) e) (low d f.0) (omega arith) (not_above 1020 i 1024 f.1 (omega arith))

pub sp_add : (at i : ℕ) → fit_of (RaiseSp i) ≡ None → IsReadSo (RaiseSp i) at
unfolding insn_text mnemonic mnemonics1 mnemonics2 mnemonics3 mnemonics4 mnemonics5 mnemonics6 mnemonics7 entry_at shaped
sp_add at i e = let f = fits false (nat_lt 508 i) (is_no_multiple i 4) e in reg_imm RaiseSp at (codes "add") (reg 13) i refl refl refl refl e refl (omega arith) (not_above 508 i 1024 f.1 (omega arith))

pub sp_sub : (at i : ℕ) → fit_of (LowerSp i) ≡ None → IsReadSo (LowerSp i) at
unfolding insn_text mnemonic mnemonics1 mnemonics2 mnemonics3 mnemonics4 mnemonics5 mnemonics6 mnemonics7 entry_at shaped
sp_sub at i e = let f = fits false (nat_lt 508 i) (is_no_multiple i 4) e in reg_imm LowerSp at (codes "sub") (reg 13) i refl refl refl refl e refl (omega arith) (not_above 508 i 1024 f.1 (omega arith))

pub change : (at : ℕ) (b : Bytes) (d m : Reg) → fit_of (Change b d m) ≡ None → IsReadSo (Change b d m) at
unfolding insn_text mnemonic mnemonics1 mnemonics2 mnemonics3 mnemonics4 mnemonics5 mnemonics6 mnemonics7 entry_at shaped
change at bytes.Sxth d m e = let f = fits (is_high d || is_high m) false false e in let l = or_parts (is_high d) (is_high m) f.0 in two_regs (Change bytes.Sxth d m) at (codes "sxth") d m refl refl refl refl e (low d l.0) (low m l.1)
change at bytes.Sxtb d m e = let f = fits (is_high d || is_high m) false false e in let l = or_parts (is_high d) (is_high m) f.0 in two_regs (Change bytes.Sxtb d m) at (codes "sxtb") d m refl refl refl refl e (low d l.0) (low m l.1)
change at bytes.Uxth d m e = let f = fits (is_high d || is_high m) false false e in let l = or_parts (is_high d) (is_high m) f.0 in two_regs (Change bytes.Uxth d m) at (codes "uxth") d m refl refl refl refl e (low d l.0) (low m l.1)
change at bytes.Uxtb d m e = let f = fits (is_high d || is_high m) false false e in let l = or_parts (is_high d) (is_high m) f.0 in two_regs (Change bytes.Uxtb d m) at (codes "uxtb") d m refl refl refl refl e (low d l.0) (low m l.1)
change at bytes.Rev d m e = let f = fits (is_high d || is_high m) false false e in let l = or_parts (is_high d) (is_high m) f.0 in two_regs (Change bytes.Rev d m) at (codes "rev") d m refl refl refl refl e (low d l.0) (low m l.1)
change at bytes.Rev16 d m e = let f = fits (is_high d || is_high m) false false e in let l = or_parts (is_high d) (is_high m) f.0 in two_regs (Change bytes.Rev16 d m) at (codes "rev16") d m refl refl refl refl e (low d l.0) (low m l.1)
change at bytes.Revsh d m e = let f = fits (is_high d || is_high m) false false e in let l = or_parts (is_high d) (is_high m) f.0 in two_regs (Change bytes.Revsh d m) at (codes "revsh") d m refl refl refl refl e (low d l.0) (low m l.1)

pub bkpt : (at i : ℕ) → fit_of (Bkpt i) ≡ None → IsReadSo (Bkpt i) at
unfolding insn_text mnemonic mnemonics1 mnemonics2 mnemonics3 mnemonics4 mnemonics5 mnemonics6 mnemonics7 entry_at shaped
bkpt at i e = let f = fits false (nat_lt 255 i) false e in one_imm Bkpt at (codes "bkpt") i refl refl refl refl e refl (not_above 255 i 1024 f.1 (omega arith))

pub svc : (at i : ℕ) → fit_of (Svc i) ≡ None → IsReadSo (Svc i) at
unfolding insn_text mnemonic mnemonics1 mnemonics2 mnemonics3 mnemonics4 mnemonics5 mnemonics6 mnemonics7 entry_at shaped
svc at i e = let f = fits false (nat_lt 255 i) false e in one_imm Svc at (codes "svc") i refl refl refl refl e refl (not_above 255 i 1024 f.1 (omega arith))

pub fence : (at : ℕ) (b : Barrier) (i : ℕ) → fit_of (Fence b i) ≡ None → IsReadSo (Fence b i) at
unfolding insn_text mnemonic mnemonics1 mnemonics2 mnemonics3 mnemonics4 mnemonics5 mnemonics6 mnemonics7 entry_at shaped
fence at barrier.Dsb i e = let f = fits false (nat_lt 15 i) false e in one_imm (Fence barrier.Dsb) at (codes "dsb") i refl refl refl refl e refl (not_above 15 i 1024 f.1 (omega arith))
fence at barrier.Dmb i e = let f = fits false (nat_lt 15 i) false e in one_imm (Fence barrier.Dmb) at (codes "dmb") i refl refl refl refl e refl (not_above 15 i 1024 f.1 (omega arith))
fence at barrier.Isb i e = let f = fits false (nat_lt 15 i) false e in one_imm (Fence barrier.Isb) at (codes "isb") i refl refl refl refl e refl (not_above 15 i 1024 f.1 (omega arith))

pub cpsie : (at : ℕ) → IsReadSo Cpsie at
unfolding insn_text mnemonic mnemonics1 mnemonics2 mnemonics3 mnemonics4 mnemonics5 mnemonics6 mnemonics7 entry_at shaped
cpsie at = say Cpsie at (codes "cpsie") (codes "i") [] (Expression (codes "i")) [] (Fixed Cpsie) refl refl refl refl reads_interrupts tt refl (fixed_ok Cpsie refl) (λ env. fixed_at env at Cpsie refl)

pub cpsid : (at : ℕ) → IsReadSo Cpsid at
unfolding insn_text mnemonic mnemonics1 mnemonics2 mnemonics3 mnemonics4 mnemonics5 mnemonics6 mnemonics7 entry_at shaped
cpsid at = say Cpsid at (codes "cpsid") (codes "i") [] (Expression (codes "i")) [] (Fixed Cpsid) refl refl refl refl reads_interrupts tt refl (fixed_ok Cpsid refl) (λ env. fixed_at env at Cpsid refl)

pub mrs : (at : ℕ) (d : Reg) → fit_of (Mrs d) ≡ None → IsReadSo (Mrs d) at
unfolding insn_text mnemonic mnemonics1 mnemonics2 mnemonics3 mnemonics4 mnemonics5 mnemonics6 mnemonics7 entry_at shaped
mrs at d e = let f = fits (is_no_register d || is d 13 || is d 15) false false e in let l = three_false (is_no_register d) (is d 13) (is d 15) f.0 in say (Mrs d) at (codes "mrs") (reg_text d) (codes "apsr" ∷ []) (Register d) (Expression (codes "apsr") ∷ []) (Fixed (Mrs d)) refl refl refl refl (reads_reg d (any d l.0)) (reads_apsr, tt) refl (fixed_ok (Mrs d) e) (λ env. fixed_at env at (Mrs d) e)

pub msr : (at : ℕ) (n : Reg) → fit_of (Msr n) ≡ None → IsReadSo (Msr n) at
unfolding insn_text mnemonic mnemonics1 mnemonics2 mnemonics3 mnemonics4 mnemonics5 mnemonics6 mnemonics7 entry_at shaped
msr at n e = let f = fits (is_no_register n || is n 13 || is n 15) false false e in let l = three_false (is_no_register n) (is n 13) (is n 15) f.0 in say (Msr n) at (codes "msr") (codes "apsr") (reg_text n ∷ []) (Expression (codes "apsr")) (Register n ∷ []) (Fixed (Msr n)) refl refl refl refl reads_apsr (reads_reg n (any n l.0), tt) refl (fixed_ok (Msr n) e) (λ env. fixed_at env at (Msr n) e)

near_by : (low top : ℕ) (z : ℤ) → outside z low top ≡ false → low < 2147483649 → top < 2147483648 → IsNear z
near_by low top (pos n) e h k = not_above top n 2147483648 e k
near_by low top (negsuc n) e h k = grind (arith, nat_tests)

pub branch_if : (at : ℕ) (c : Cond) (z : ℤ) → fit_of (BranchIf c z) ≡ None → IsAddress (pos (at + 4) +ℤ z) → IsReadSo (BranchIf c z) at
unfolding insn_text mnemonic mnemonics1 mnemonics2 mnemonics3 mnemonics4 mnemonics5 mnemonics6 mnemonics7 entry_at shaped
branch_if at cond.Eq z e h = let f = fits false (outside z 256 254) (is_odd z) e in aims (BranchIf cond.Eq) at (codes "beq") z refl refl refl refl e (near_by 256 254 z f.1 (omega arith) (omega arith)) h
branch_if at cond.Ne z e h = let f = fits false (outside z 256 254) (is_odd z) e in aims (BranchIf cond.Ne) at (codes "bne") z refl refl refl refl e (near_by 256 254 z f.1 (omega arith) (omega arith)) h
branch_if at cond.Cs z e h = let f = fits false (outside z 256 254) (is_odd z) e in aims (BranchIf cond.Cs) at (codes "bcs") z refl refl refl refl e (near_by 256 254 z f.1 (omega arith) (omega arith)) h
branch_if at cond.Cc z e h = let f = fits false (outside z 256 254) (is_odd z) e in aims (BranchIf cond.Cc) at (codes "bcc") z refl refl refl refl e (near_by 256 254 z f.1 (omega arith) (omega arith)) h
branch_if at cond.Mi z e h = let f = fits false (outside z 256 254) (is_odd z) e in aims (BranchIf cond.Mi) at (codes "bmi") z refl refl refl refl e (near_by 256 254 z f.1 (omega arith) (omega arith)) h
branch_if at cond.Pl z e h = let f = fits false (outside z 256 254) (is_odd z) e in aims (BranchIf cond.Pl) at (codes "bpl") z refl refl refl refl e (near_by 256 254 z f.1 (omega arith) (omega arith)) h
branch_if at cond.Vs z e h = let f = fits false (outside z 256 254) (is_odd z) e in aims (BranchIf cond.Vs) at (codes "bvs") z refl refl refl refl e (near_by 256 254 z f.1 (omega arith) (omega arith)) h
branch_if at cond.Vc z e h = let f = fits false (outside z 256 254) (is_odd z) e in aims (BranchIf cond.Vc) at (codes "bvc") z refl refl refl refl e (near_by 256 254 z f.1 (omega arith) (omega arith)) h
branch_if at cond.Hi z e h = let f = fits false (outside z 256 254) (is_odd z) e in aims (BranchIf cond.Hi) at (codes "bhi") z refl refl refl refl e (near_by 256 254 z f.1 (omega arith) (omega arith)) h
branch_if at cond.Ls z e h = let f = fits false (outside z 256 254) (is_odd z) e in aims (BranchIf cond.Ls) at (codes "bls") z refl refl refl refl e (near_by 256 254 z f.1 (omega arith) (omega arith)) h
branch_if at cond.Ge z e h = let f = fits false (outside z 256 254) (is_odd z) e in aims (BranchIf cond.Ge) at (codes "bge") z refl refl refl refl e (near_by 256 254 z f.1 (omega arith) (omega arith)) h
branch_if at cond.Lt z e h = let f = fits false (outside z 256 254) (is_odd z) e in aims (BranchIf cond.Lt) at (codes "blt") z refl refl refl refl e (near_by 256 254 z f.1 (omega arith) (omega arith)) h
branch_if at cond.Gt z e h = let f = fits false (outside z 256 254) (is_odd z) e in aims (BranchIf cond.Gt) at (codes "bgt") z refl refl refl refl e (near_by 256 254 z f.1 (omega arith) (omega arith)) h
branch_if at cond.Le z e h = let f = fits false (outside z 256 254) (is_odd z) e in aims (BranchIf cond.Le) at (codes "ble") z refl refl refl refl e (near_by 256 254 z f.1 (omega arith) (omega arith)) h

pub far_b : (at : ℕ) (z : ℤ) → fit_of (Branch z) ≡ None → IsAddress (pos (at + 4) +ℤ z) → IsReadSo (Branch z) at
unfolding insn_text mnemonic mnemonics1 mnemonics2 mnemonics3 mnemonics4 mnemonics5 mnemonics6 mnemonics7 entry_at shaped
far_b at z e h = let f = fits false (outside z 2048 2046) (is_odd z) e in aims Branch at (codes "b") z refl refl refl refl e (near_by 2048 2046 z f.1 (omega arith) (omega arith)) h

pub far_bl : (at : ℕ) (z : ℤ) → fit_of (Bl z) ≡ None → IsAddress (pos (at + 4) +ℤ z) → IsReadSo (Bl z) at
unfolding insn_text mnemonic mnemonics1 mnemonics2 mnemonics3 mnemonics4 mnemonics5 mnemonics6 mnemonics7 entry_at shaped
far_bl at z e h = let f = fits false (outside z 16777216 16777214) (is_odd z) e in aims Bl at (codes "bl") z refl refl refl refl e (near_by 16777216 16777214 z f.1 (omega arith) (omega arith)) h

pub nop : (at : ℕ) → IsReadSo (Hint 0) at
unfolding digits insn_text parts before after strip strip_front strip_end statement_of until from_first mnemonic mnemonics1 mnemonics2 mnemonics3 mnemonics4 mnemonics5 mnemonics6 mnemonics7 entry_at operand_pieces operands shaped checked has_bad_count has_bad_register has_bad_number has_bad_list insn_at
nop at = record { read = (refl, (Fixed (Hint 0), refl, λ env. refl)); allowed = refl; short = omega arith }

pub yield : (at : ℕ) → IsReadSo (Hint 1) at
unfolding digits insn_text parts before after strip strip_front strip_end statement_of until from_first mnemonic mnemonics1 mnemonics2 mnemonics3 mnemonics4 mnemonics5 mnemonics6 mnemonics7 entry_at operand_pieces operands shaped checked has_bad_count has_bad_register has_bad_number has_bad_list insn_at
yield at = record { read = (refl, (Fixed (Hint 1), refl, λ env. refl)); allowed = refl; short = omega arith }

pub wfe : (at : ℕ) → IsReadSo (Hint 2) at
unfolding digits insn_text parts before after strip strip_front strip_end statement_of until from_first mnemonic mnemonics1 mnemonics2 mnemonics3 mnemonics4 mnemonics5 mnemonics6 mnemonics7 entry_at operand_pieces operands shaped checked has_bad_count has_bad_register has_bad_number has_bad_list insn_at
wfe at = record { read = (refl, (Fixed (Hint 2), refl, λ env. refl)); allowed = refl; short = omega arith }

pub wfi : (at : ℕ) → IsReadSo (Hint 3) at
unfolding digits insn_text parts before after strip strip_front strip_end statement_of until from_first mnemonic mnemonics1 mnemonics2 mnemonics3 mnemonics4 mnemonics5 mnemonics6 mnemonics7 entry_at operand_pieces operands shaped checked has_bad_count has_bad_register has_bad_number has_bad_list insn_at
wfi at = record { read = (refl, (Fixed (Hint 3), refl, λ env. refl)); allowed = refl; short = omega arith }

pub sev : (at : ℕ) → IsReadSo (Hint 4) at
unfolding digits insn_text parts before after strip strip_front strip_end statement_of until from_first mnemonic mnemonics1 mnemonics2 mnemonics3 mnemonics4 mnemonics5 mnemonics6 mnemonics7 entry_at operand_pieces operands shaped checked has_bad_count has_bad_register has_bad_number has_bad_list insn_at
sev at = record { read = (refl, (Fixed (Hint 4), refl, λ env. refl)); allowed = refl; short = omega arith }

pub hint : (at h : ℕ) → fit_of (Hint h) ≡ None → IsReadSo (Hint h) at
unfolding insn_text mnemonic mnemonics1 mnemonics2 mnemonics3 mnemonics4 mnemonics5 mnemonics6 mnemonics7 entry_at shaped
hint at zero e = nop at
hint at (suc zero) e = yield at
hint at (suc (suc zero)) e = wfe at
hint at (suc (suc (suc zero))) e = wfi at
hint at (suc (suc (suc (suc zero)))) e = sev at
hint at (suc (suc (suc (suc (suc k))))) e = let f = fits false (nat_lt 15 (suc (suc (suc (suc (suc k)))))) false e in let b : (suc (suc (suc (suc (suc k))))) ≤ 15 = grind (arith, nat_tests) in one_within 5 15 Hint at (codes "hint") (suc (suc (suc (suc (suc k))))) (hint_text_is at (suc (suc (suc (suc (suc k))))) (omega arith)) refl refl refl e refl (omega arith) b (omega arith)

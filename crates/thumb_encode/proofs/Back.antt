-- The instruction that the code of an instruction has.
use Rattle.std.proofs.Common.{◌≡◌, ℕ, suc, ◌+◌, ◌-◌, ◌*◌, ◌/◌, ◌%◌, ◌<◌, Bool, true, false, not, ◌&&◌, ◌||◌, nat_eq, nat_lt, Some, None, ℤ, pos, negsuc, arith, refl, ap, ◌∙◌}
use Rattle.std.proofs.lemmas.Bool.Decides.{nat_tests}
use Rattle.thumb_insn.specs.Table.{is_later}
use Rattle.thumb_insn.specs.Range.{insn_of}
use Rattle.thumb_insn.specs.Fields.{field, reg, count, double, signed_field, only_if}
use Rattle.thumb_insn.specs.declared.Reg.{Reg}
use Rattle.thumb_insn.specs.declared.Cond.TheVariants as cond
use Rattle.thumb_insn.specs.declared.Shift.TheVariants as shift
use Rattle.thumb_insn.specs.declared.Op.TheVariants as op
use Rattle.thumb_insn.specs.declared.Size.TheVariants as size
use Rattle.thumb_insn.specs.declared.Load.TheVariants as load
use Rattle.thumb_insn.specs.declared.Bytes.TheVariants as bytes
use Rattle.thumb_insn.specs.declared.Insn.{Insn}
use Rattle.thumb_insn.specs.declared.Insn.TheVariants.{ShiftImm, AddsReg, SubsReg, AddsImm3, SubsImm3, MovsImm, CmpImm, AddsImm8, SubsImm8, Data, AddHigh, CmpHigh, MovHigh, Bx, Blx, LdrLiteral, StoreReg, LoadReg, StoreImm, LoadImm, StoreSp, LoadSp, Adr, AddSp, RaiseSp, LowerSp, Change, Push, Pop, Cpsie, Cpsid, Bkpt, Hint, Stm, Ldm, BranchIf, Svc, Branch}
use Rattle.thumb_insn.proofs.Rows.{row_0000, row_0800, row_1000, row_1800, row_1a00, row_1c00, row_1e00, row_2000, row_2800, row_3000, row_3800, row_4000, row_4040, row_4080, row_40c0, row_4100, row_4140, row_4180, row_41c0, row_4200, row_4240, row_4280, row_42c0, row_4300, row_4340, row_4380, row_43c0, row_5000, row_5200, row_5400, row_5600, row_5800, row_5a00, row_5c00, row_5e00, row_6000, row_6800, row_7000, row_7800, row_8000, row_8800, row_4800, row_9000, row_9800, row_a000, row_a800, row_b000, row_b080, row_b200, row_b240, row_b280, row_b2c0, row_ba00, row_ba40, row_bac0, row_be00, row_df00, row_bf00, row_b662, row_b672, row_c800, row_d000, row_d100, row_d200, row_d300, row_d400, row_d500, row_d600, row_d700, row_d800, row_d900, row_da00, row_db00, row_dc00, row_dd00, row_4400, row_4500, row_4600, row_4700, row_4780, row_b400, row_bc00, row_c000, row_e000}
use Rattle.thumb_encode.specs.Codes.{fit_of, code_of, misfit, is_high, low2, low3, half_offset, outside, is_odd, split, flag}

pub same_reg : (r : Reg) (k : ℕ) → k ≡ r.number → reg k ≡ r
same_reg r k e = ap reg e

pub same : (i k : ℕ) → k ≡ i → k ≡ i
same i k e = e

counted : (by k : ℕ) → 0 < by → by < 33 → k ≡ by % 32 → count k ≡ by
counted by k p q e = grind (arith, nat_tests)

legal : {i j : Insn} {n : ℕ} → 0 < n → i ≡ j → only_if (nat_lt 0 n) i ≡ Some j
legal {i} {j} {n} h e = let t : nat_lt 0 n ≡ true = grind (arith, nat_tests) in rw (t, e) refl

pub within : (o a : Bool) → misfit false o a ≡ None → (o ≡ false) × (a ≡ false)
within true a e = cc
within false true e = cc
within false false e = (refl, refl)

within8 : (z : ℤ) → misfit false (outside z 256 254) (is_odd z) ≡ None → (outside z 256 254 ≡ false) × (is_odd z ≡ false)
within8 z e = within _ _ e

low_field : (k x : ℕ) → k % 256 ≡ 0 → x < 256 → field (k + x) 0 8 ≡ x
low_field k x h b = omega arith

pos_half : (n : ℕ) → n < 255 → n % 2 ≡ 0 → double (signed_field 8 (n / 2 % 256)) ≡ pos n
pos_half n h e = grind (arith, nat_tests)

neg_half : (n : ℕ) → n < 256 → n % 2 ≡ 1 → double (signed_field 8 ((4294967296 - suc n) / 2 % 256)) ≡ negsuc n
neg_half n h e = grind (arith, nat_tests)

pub legal_if : {c : Bool} {i j : Insn} → c ≡ true → i ≡ j → only_if c i ≡ Some j
legal_if {c} {i} {j} t e = rw (t, e) refl

three : (a b c : Bool) → misfit (a || b || c) false false ≡ None → (a ≡ false) × (b ≡ false) × (c ≡ false)
three true b c e = cc
three false true c e = cc
three false false true e = cc
three false false false e = (refl, refl, refl)

stm_legal : (list n l k : ℕ) → l ≡ list → k ≡ n → 0 < list → is_later list n ≡ false → nat_lt 0 l && not (is_later l k) ≡ true
stm_legal list n l k r q h e = let t : nat_lt 0 list ≡ true = grind (arith, nat_tests) in rw (r, q, e, t) refl

low_field11 : (k x : ℕ) → k % 2048 ≡ 0 → x < 2048 → field (k + x) 0 11 ≡ x
low_field11 k x h b = omega arith

pos_half11 : (n : ℕ) → n < 2047 → n % 2 ≡ 0 → double (signed_field 11 (n / 2 % 2048)) ≡ pos n
pos_half11 n h e = grind (arith, nat_tests)

neg_half11 : (n : ℕ) → n < 2048 → n % 2 ≡ 1 → double (signed_field 11 ((4294967296 - suc n) / 2 % 2048)) ≡ negsuc n
neg_half11 n h e = grind (arith, nat_tests)

back_offset11 : (k : ℕ) (z : ℤ) → k % 2048 ≡ 0 → (outside z 2048 2046 ≡ false) × (is_odd z ≡ false) → double (signed_field 11 (field (k + half_offset z 11) 0 11)) ≡ z
back_offset11 k (pos n) f w = rw (low_field11 k (half_offset (pos n) 11) f (omega arith)) (pos_half11 n (let t = w.0 in grind (arith, nat_tests)) (let t = w.1 in grind (arith, nat_tests)))
back_offset11 k (negsuc n) f w = rw (low_field11 k (half_offset (negsuc n) 11) f (omega arith)) (neg_half11 n (let t = w.0 in grind (arith, nat_tests)) (let t = w.1 in grind (arith, nat_tests)))

back_offset8 : (k : ℕ) (z : ℤ) → k % 256 ≡ 0 → (outside z 256 254 ≡ false) × (is_odd z ≡ false) → double (signed_field 8 (field (k + half_offset z 8) 0 8)) ≡ z
back_offset8 k (pos n) f w = rw (low_field k (half_offset (pos n) 8) f (omega arith)) (pos_half n (let t = w.0 in grind (arith, nat_tests)) (let t = w.1 in grind (arith, nat_tests)))
back_offset8 k (negsuc n) f w = rw (low_field k (half_offset (negsuc n) 8) f (omega arith)) (neg_half n (let t = w.0 in grind (arith, nat_tests)) (let t = w.1 in grind (arith, nat_tests)))

pub back_0000 : (d : Reg) (m : Reg) (by : ℕ) → fit_of (ShiftImm shift.Lsl d m by) ≡ None → insn_of (code_of (ShiftImm shift.Lsl d m by)) ≡ Some (ShiftImm shift.Lsl d m by)
back_0000 d m by e = let b : (d.number < 8) × (m.number < 8) × (by < 32) = grind (arith, nat_tests) in row_0000 (0 + by % 32 * 64 + low2 m d) (omega arith) (omega arith) ∙ cc (same_reg d (field (0 + by % 32 * 64 + low2 m d) 0 3) (omega arith), same_reg m (field (0 + by % 32 * 64 + low2 m d) 3 3) (omega arith), same by (field (0 + by % 32 * 64 + low2 m d) 6 5) (omega arith))

pub back_0800 : (d : Reg) (m : Reg) (by : ℕ) → fit_of (ShiftImm shift.Lsr d m by) ≡ None → insn_of (code_of (ShiftImm shift.Lsr d m by)) ≡ Some (ShiftImm shift.Lsr d m by)
back_0800 d m by e = let b : (d.number < 8) × (m.number < 8) × (0 < by) × (by < 33) = grind (arith, nat_tests) in row_0800 (2048 + by % 32 * 64 + low2 m d) (omega arith) (omega arith) ∙ cc (same_reg d (field (2048 + by % 32 * 64 + low2 m d) 0 3) (omega arith), same_reg m (field (2048 + by % 32 * 64 + low2 m d) 3 3) (omega arith), counted by (field (2048 + by % 32 * 64 + low2 m d) 6 5) (omega arith) (omega arith) (omega arith))

pub back_1000 : (d : Reg) (m : Reg) (by : ℕ) → fit_of (ShiftImm shift.Asr d m by) ≡ None → insn_of (code_of (ShiftImm shift.Asr d m by)) ≡ Some (ShiftImm shift.Asr d m by)
back_1000 d m by e = let b : (d.number < 8) × (m.number < 8) × (0 < by) × (by < 33) = grind (arith, nat_tests) in row_1000 (4096 + by % 32 * 64 + low2 m d) (omega arith) (omega arith) ∙ cc (same_reg d (field (4096 + by % 32 * 64 + low2 m d) 0 3) (omega arith), same_reg m (field (4096 + by % 32 * 64 + low2 m d) 3 3) (omega arith), counted by (field (4096 + by % 32 * 64 + low2 m d) 6 5) (omega arith) (omega arith) (omega arith))

pub back_1800 : (d : Reg) (n : Reg) (m : Reg) → fit_of (AddsReg d n m) ≡ None → insn_of (code_of (AddsReg d n m)) ≡ Some (AddsReg d n m)
back_1800 d n m e = let b : (d.number < 8) × (n.number < 8) × (m.number < 8) = grind (arith, nat_tests) in row_1800 (6144 + low3 m n d) (omega arith) (omega arith) ∙ cc (same_reg d (field (6144 + low3 m n d) 0 3) (omega arith), same_reg n (field (6144 + low3 m n d) 3 3) (omega arith), same_reg m (field (6144 + low3 m n d) 6 3) (omega arith))

pub back_1a00 : (d : Reg) (n : Reg) (m : Reg) → fit_of (SubsReg d n m) ≡ None → insn_of (code_of (SubsReg d n m)) ≡ Some (SubsReg d n m)
back_1a00 d n m e = let b : (d.number < 8) × (n.number < 8) × (m.number < 8) = grind (arith, nat_tests) in row_1a00 (6656 + low3 m n d) (omega arith) (omega arith) ∙ cc (same_reg d (field (6656 + low3 m n d) 0 3) (omega arith), same_reg n (field (6656 + low3 m n d) 3 3) (omega arith), same_reg m (field (6656 + low3 m n d) 6 3) (omega arith))

pub back_1c00 : (d : Reg) (n : Reg) (i : ℕ) → fit_of (AddsImm3 d n i) ≡ None → insn_of (code_of (AddsImm3 d n i)) ≡ Some (AddsImm3 d n i)
back_1c00 d n i e = let b : (d.number < 8) × (n.number < 8) × (i < 8) = grind (arith, nat_tests) in row_1c00 (7168 + i * 64 + low2 n d) (omega arith) (omega arith) ∙ cc (same_reg d (field (7168 + i * 64 + low2 n d) 0 3) (omega arith), same_reg n (field (7168 + i * 64 + low2 n d) 3 3) (omega arith), same i (field (7168 + i * 64 + low2 n d) 6 3) (omega arith))

pub back_1e00 : (d : Reg) (n : Reg) (i : ℕ) → fit_of (SubsImm3 d n i) ≡ None → insn_of (code_of (SubsImm3 d n i)) ≡ Some (SubsImm3 d n i)
back_1e00 d n i e = let b : (d.number < 8) × (n.number < 8) × (i < 8) = grind (arith, nat_tests) in row_1e00 (7680 + i * 64 + low2 n d) (omega arith) (omega arith) ∙ cc (same_reg d (field (7680 + i * 64 + low2 n d) 0 3) (omega arith), same_reg n (field (7680 + i * 64 + low2 n d) 3 3) (omega arith), same i (field (7680 + i * 64 + low2 n d) 6 3) (omega arith))

pub back_2000 : (d : Reg) (i : ℕ) → fit_of (MovsImm d i) ≡ None → insn_of (code_of (MovsImm d i)) ≡ Some (MovsImm d i)
back_2000 d i e = let b : (d.number < 8) × (i < 256) = grind (arith, nat_tests) in row_2000 (8192 + d.number * 256 + i) (omega arith) (omega arith) ∙ cc (same_reg d (field (8192 + d.number * 256 + i) 8 3) (omega arith), same i (field (8192 + d.number * 256 + i) 0 8) (omega arith))

pub back_2800 : (d : Reg) (i : ℕ) → fit_of (CmpImm d i) ≡ None → insn_of (code_of (CmpImm d i)) ≡ Some (CmpImm d i)
back_2800 d i e = let b : (d.number < 8) × (i < 256) = grind (arith, nat_tests) in row_2800 (10240 + d.number * 256 + i) (omega arith) (omega arith) ∙ cc (same_reg d (field (10240 + d.number * 256 + i) 8 3) (omega arith), same i (field (10240 + d.number * 256 + i) 0 8) (omega arith))

pub back_3000 : (d : Reg) (i : ℕ) → fit_of (AddsImm8 d i) ≡ None → insn_of (code_of (AddsImm8 d i)) ≡ Some (AddsImm8 d i)
back_3000 d i e = let b : (d.number < 8) × (i < 256) = grind (arith, nat_tests) in row_3000 (12288 + d.number * 256 + i) (omega arith) (omega arith) ∙ cc (same_reg d (field (12288 + d.number * 256 + i) 8 3) (omega arith), same i (field (12288 + d.number * 256 + i) 0 8) (omega arith))

pub back_3800 : (d : Reg) (i : ℕ) → fit_of (SubsImm8 d i) ≡ None → insn_of (code_of (SubsImm8 d i)) ≡ Some (SubsImm8 d i)
back_3800 d i e = let b : (d.number < 8) × (i < 256) = grind (arith, nat_tests) in row_3800 (14336 + d.number * 256 + i) (omega arith) (omega arith) ∙ cc (same_reg d (field (14336 + d.number * 256 + i) 8 3) (omega arith), same i (field (14336 + d.number * 256 + i) 0 8) (omega arith))

pub back_4000 : (d : Reg) (m : Reg) → fit_of (Data op.Ands d m) ≡ None → insn_of (code_of (Data op.Ands d m)) ≡ Some (Data op.Ands d m)
back_4000 d m e = let b : (d.number < 8) × (m.number < 8) = grind (arith, nat_tests) in row_4000 (16384 + 0 * 64 + low2 m d) (omega arith) (omega arith) ∙ cc (same_reg d (field (16384 + 0 * 64 + low2 m d) 0 3) (omega arith), same_reg m (field (16384 + 0 * 64 + low2 m d) 3 3) (omega arith))

pub back_4040 : (d : Reg) (m : Reg) → fit_of (Data op.Eors d m) ≡ None → insn_of (code_of (Data op.Eors d m)) ≡ Some (Data op.Eors d m)
back_4040 d m e = let b : (d.number < 8) × (m.number < 8) = grind (arith, nat_tests) in row_4040 (16384 + 1 * 64 + low2 m d) (omega arith) (omega arith) ∙ cc (same_reg d (field (16384 + 1 * 64 + low2 m d) 0 3) (omega arith), same_reg m (field (16384 + 1 * 64 + low2 m d) 3 3) (omega arith))

pub back_4080 : (d : Reg) (m : Reg) → fit_of (Data op.Lsls d m) ≡ None → insn_of (code_of (Data op.Lsls d m)) ≡ Some (Data op.Lsls d m)
back_4080 d m e = let b : (d.number < 8) × (m.number < 8) = grind (arith, nat_tests) in row_4080 (16384 + 2 * 64 + low2 m d) (omega arith) (omega arith) ∙ cc (same_reg d (field (16384 + 2 * 64 + low2 m d) 0 3) (omega arith), same_reg m (field (16384 + 2 * 64 + low2 m d) 3 3) (omega arith))

pub back_40c0 : (d : Reg) (m : Reg) → fit_of (Data op.Lsrs d m) ≡ None → insn_of (code_of (Data op.Lsrs d m)) ≡ Some (Data op.Lsrs d m)
back_40c0 d m e = let b : (d.number < 8) × (m.number < 8) = grind (arith, nat_tests) in row_40c0 (16384 + 3 * 64 + low2 m d) (omega arith) (omega arith) ∙ cc (same_reg d (field (16384 + 3 * 64 + low2 m d) 0 3) (omega arith), same_reg m (field (16384 + 3 * 64 + low2 m d) 3 3) (omega arith))

pub back_4100 : (d : Reg) (m : Reg) → fit_of (Data op.Asrs d m) ≡ None → insn_of (code_of (Data op.Asrs d m)) ≡ Some (Data op.Asrs d m)
back_4100 d m e = let b : (d.number < 8) × (m.number < 8) = grind (arith, nat_tests) in row_4100 (16384 + 4 * 64 + low2 m d) (omega arith) (omega arith) ∙ cc (same_reg d (field (16384 + 4 * 64 + low2 m d) 0 3) (omega arith), same_reg m (field (16384 + 4 * 64 + low2 m d) 3 3) (omega arith))

pub back_4140 : (d : Reg) (m : Reg) → fit_of (Data op.Adcs d m) ≡ None → insn_of (code_of (Data op.Adcs d m)) ≡ Some (Data op.Adcs d m)
back_4140 d m e = let b : (d.number < 8) × (m.number < 8) = grind (arith, nat_tests) in row_4140 (16384 + 5 * 64 + low2 m d) (omega arith) (omega arith) ∙ cc (same_reg d (field (16384 + 5 * 64 + low2 m d) 0 3) (omega arith), same_reg m (field (16384 + 5 * 64 + low2 m d) 3 3) (omega arith))

pub back_4180 : (d : Reg) (m : Reg) → fit_of (Data op.Sbcs d m) ≡ None → insn_of (code_of (Data op.Sbcs d m)) ≡ Some (Data op.Sbcs d m)
back_4180 d m e = let b : (d.number < 8) × (m.number < 8) = grind (arith, nat_tests) in row_4180 (16384 + 6 * 64 + low2 m d) (omega arith) (omega arith) ∙ cc (same_reg d (field (16384 + 6 * 64 + low2 m d) 0 3) (omega arith), same_reg m (field (16384 + 6 * 64 + low2 m d) 3 3) (omega arith))

pub back_41c0 : (d : Reg) (m : Reg) → fit_of (Data op.Rors d m) ≡ None → insn_of (code_of (Data op.Rors d m)) ≡ Some (Data op.Rors d m)
back_41c0 d m e = let b : (d.number < 8) × (m.number < 8) = grind (arith, nat_tests) in row_41c0 (16384 + 7 * 64 + low2 m d) (omega arith) (omega arith) ∙ cc (same_reg d (field (16384 + 7 * 64 + low2 m d) 0 3) (omega arith), same_reg m (field (16384 + 7 * 64 + low2 m d) 3 3) (omega arith))

pub back_4200 : (d : Reg) (m : Reg) → fit_of (Data op.Tst d m) ≡ None → insn_of (code_of (Data op.Tst d m)) ≡ Some (Data op.Tst d m)
back_4200 d m e = let b : (d.number < 8) × (m.number < 8) = grind (arith, nat_tests) in row_4200 (16384 + 8 * 64 + low2 m d) (omega arith) (omega arith) ∙ cc (same_reg d (field (16384 + 8 * 64 + low2 m d) 0 3) (omega arith), same_reg m (field (16384 + 8 * 64 + low2 m d) 3 3) (omega arith))

pub back_4240 : (d : Reg) (m : Reg) → fit_of (Data op.Rsbs d m) ≡ None → insn_of (code_of (Data op.Rsbs d m)) ≡ Some (Data op.Rsbs d m)
back_4240 d m e = let b : (d.number < 8) × (m.number < 8) = grind (arith, nat_tests) in row_4240 (16384 + 9 * 64 + low2 m d) (omega arith) (omega arith) ∙ cc (same_reg d (field (16384 + 9 * 64 + low2 m d) 0 3) (omega arith), same_reg m (field (16384 + 9 * 64 + low2 m d) 3 3) (omega arith))

pub back_4280 : (d : Reg) (m : Reg) → fit_of (Data op.Cmp d m) ≡ None → insn_of (code_of (Data op.Cmp d m)) ≡ Some (Data op.Cmp d m)
back_4280 d m e = let b : (d.number < 8) × (m.number < 8) = grind (arith, nat_tests) in row_4280 (16384 + 10 * 64 + low2 m d) (omega arith) (omega arith) ∙ cc (same_reg d (field (16384 + 10 * 64 + low2 m d) 0 3) (omega arith), same_reg m (field (16384 + 10 * 64 + low2 m d) 3 3) (omega arith))

pub back_42c0 : (d : Reg) (m : Reg) → fit_of (Data op.Cmn d m) ≡ None → insn_of (code_of (Data op.Cmn d m)) ≡ Some (Data op.Cmn d m)
back_42c0 d m e = let b : (d.number < 8) × (m.number < 8) = grind (arith, nat_tests) in row_42c0 (16384 + 11 * 64 + low2 m d) (omega arith) (omega arith) ∙ cc (same_reg d (field (16384 + 11 * 64 + low2 m d) 0 3) (omega arith), same_reg m (field (16384 + 11 * 64 + low2 m d) 3 3) (omega arith))

pub back_4300 : (d : Reg) (m : Reg) → fit_of (Data op.Orrs d m) ≡ None → insn_of (code_of (Data op.Orrs d m)) ≡ Some (Data op.Orrs d m)
back_4300 d m e = let b : (d.number < 8) × (m.number < 8) = grind (arith, nat_tests) in row_4300 (16384 + 12 * 64 + low2 m d) (omega arith) (omega arith) ∙ cc (same_reg d (field (16384 + 12 * 64 + low2 m d) 0 3) (omega arith), same_reg m (field (16384 + 12 * 64 + low2 m d) 3 3) (omega arith))

pub back_4340 : (d : Reg) (m : Reg) → fit_of (Data op.Muls d m) ≡ None → insn_of (code_of (Data op.Muls d m)) ≡ Some (Data op.Muls d m)
back_4340 d m e = let b : (d.number < 8) × (m.number < 8) = grind (arith, nat_tests) in row_4340 (16384 + 13 * 64 + low2 m d) (omega arith) (omega arith) ∙ cc (same_reg d (field (16384 + 13 * 64 + low2 m d) 0 3) (omega arith), same_reg m (field (16384 + 13 * 64 + low2 m d) 3 3) (omega arith))

pub back_4380 : (d : Reg) (m : Reg) → fit_of (Data op.Bics d m) ≡ None → insn_of (code_of (Data op.Bics d m)) ≡ Some (Data op.Bics d m)
back_4380 d m e = let b : (d.number < 8) × (m.number < 8) = grind (arith, nat_tests) in row_4380 (16384 + 14 * 64 + low2 m d) (omega arith) (omega arith) ∙ cc (same_reg d (field (16384 + 14 * 64 + low2 m d) 0 3) (omega arith), same_reg m (field (16384 + 14 * 64 + low2 m d) 3 3) (omega arith))

pub back_43c0 : (d : Reg) (m : Reg) → fit_of (Data op.Mvns d m) ≡ None → insn_of (code_of (Data op.Mvns d m)) ≡ Some (Data op.Mvns d m)
back_43c0 d m e = let b : (d.number < 8) × (m.number < 8) = grind (arith, nat_tests) in row_43c0 (16384 + 15 * 64 + low2 m d) (omega arith) (omega arith) ∙ cc (same_reg d (field (16384 + 15 * 64 + low2 m d) 0 3) (omega arith), same_reg m (field (16384 + 15 * 64 + low2 m d) 3 3) (omega arith))

pub back_5000 : (t : Reg) (n : Reg) (m : Reg) → fit_of (StoreReg size.Word t n m) ≡ None → insn_of (code_of (StoreReg size.Word t n m)) ≡ Some (StoreReg size.Word t n m)
back_5000 t n m e = let b : (t.number < 8) × (n.number < 8) × (m.number < 8) = grind (arith, nat_tests) in row_5000 (20480 + low3 m n t) (omega arith) (omega arith) ∙ cc (same_reg t (field (20480 + low3 m n t) 0 3) (omega arith), same_reg n (field (20480 + low3 m n t) 3 3) (omega arith), same_reg m (field (20480 + low3 m n t) 6 3) (omega arith))

pub back_5200 : (t : Reg) (n : Reg) (m : Reg) → fit_of (StoreReg size.Half t n m) ≡ None → insn_of (code_of (StoreReg size.Half t n m)) ≡ Some (StoreReg size.Half t n m)
back_5200 t n m e = let b : (t.number < 8) × (n.number < 8) × (m.number < 8) = grind (arith, nat_tests) in row_5200 (20992 + low3 m n t) (omega arith) (omega arith) ∙ cc (same_reg t (field (20992 + low3 m n t) 0 3) (omega arith), same_reg n (field (20992 + low3 m n t) 3 3) (omega arith), same_reg m (field (20992 + low3 m n t) 6 3) (omega arith))

pub back_5400 : (t : Reg) (n : Reg) (m : Reg) → fit_of (StoreReg size.Byte t n m) ≡ None → insn_of (code_of (StoreReg size.Byte t n m)) ≡ Some (StoreReg size.Byte t n m)
back_5400 t n m e = let b : (t.number < 8) × (n.number < 8) × (m.number < 8) = grind (arith, nat_tests) in row_5400 (21504 + low3 m n t) (omega arith) (omega arith) ∙ cc (same_reg t (field (21504 + low3 m n t) 0 3) (omega arith), same_reg n (field (21504 + low3 m n t) 3 3) (omega arith), same_reg m (field (21504 + low3 m n t) 6 3) (omega arith))

pub back_5600 : (t : Reg) (n : Reg) (m : Reg) → fit_of (LoadReg load.SignedByte t n m) ≡ None → insn_of (code_of (LoadReg load.SignedByte t n m)) ≡ Some (LoadReg load.SignedByte t n m)
back_5600 t n m e = let b : (t.number < 8) × (n.number < 8) × (m.number < 8) = grind (arith, nat_tests) in row_5600 (22016 + low3 m n t) (omega arith) (omega arith) ∙ cc (same_reg t (field (22016 + low3 m n t) 0 3) (omega arith), same_reg n (field (22016 + low3 m n t) 3 3) (omega arith), same_reg m (field (22016 + low3 m n t) 6 3) (omega arith))

pub back_5800 : (t : Reg) (n : Reg) (m : Reg) → fit_of (LoadReg (load.Whole size.Word) t n m) ≡ None → insn_of (code_of (LoadReg (load.Whole size.Word) t n m)) ≡ Some (LoadReg (load.Whole size.Word) t n m)
back_5800 t n m e = let b : (t.number < 8) × (n.number < 8) × (m.number < 8) = grind (arith, nat_tests) in row_5800 (22528 + low3 m n t) (omega arith) (omega arith) ∙ cc (same_reg t (field (22528 + low3 m n t) 0 3) (omega arith), same_reg n (field (22528 + low3 m n t) 3 3) (omega arith), same_reg m (field (22528 + low3 m n t) 6 3) (omega arith))

pub back_5a00 : (t : Reg) (n : Reg) (m : Reg) → fit_of (LoadReg (load.Whole size.Half) t n m) ≡ None → insn_of (code_of (LoadReg (load.Whole size.Half) t n m)) ≡ Some (LoadReg (load.Whole size.Half) t n m)
back_5a00 t n m e = let b : (t.number < 8) × (n.number < 8) × (m.number < 8) = grind (arith, nat_tests) in row_5a00 (23040 + low3 m n t) (omega arith) (omega arith) ∙ cc (same_reg t (field (23040 + low3 m n t) 0 3) (omega arith), same_reg n (field (23040 + low3 m n t) 3 3) (omega arith), same_reg m (field (23040 + low3 m n t) 6 3) (omega arith))

pub back_5c00 : (t : Reg) (n : Reg) (m : Reg) → fit_of (LoadReg (load.Whole size.Byte) t n m) ≡ None → insn_of (code_of (LoadReg (load.Whole size.Byte) t n m)) ≡ Some (LoadReg (load.Whole size.Byte) t n m)
back_5c00 t n m e = let b : (t.number < 8) × (n.number < 8) × (m.number < 8) = grind (arith, nat_tests) in row_5c00 (23552 + low3 m n t) (omega arith) (omega arith) ∙ cc (same_reg t (field (23552 + low3 m n t) 0 3) (omega arith), same_reg n (field (23552 + low3 m n t) 3 3) (omega arith), same_reg m (field (23552 + low3 m n t) 6 3) (omega arith))

pub back_5e00 : (t : Reg) (n : Reg) (m : Reg) → fit_of (LoadReg load.SignedHalf t n m) ≡ None → insn_of (code_of (LoadReg load.SignedHalf t n m)) ≡ Some (LoadReg load.SignedHalf t n m)
back_5e00 t n m e = let b : (t.number < 8) × (n.number < 8) × (m.number < 8) = grind (arith, nat_tests) in row_5e00 (24064 + low3 m n t) (omega arith) (omega arith) ∙ cc (same_reg t (field (24064 + low3 m n t) 0 3) (omega arith), same_reg n (field (24064 + low3 m n t) 3 3) (omega arith), same_reg m (field (24064 + low3 m n t) 6 3) (omega arith))

pub back_6000 : (t : Reg) (n : Reg) (i : ℕ) → fit_of (StoreImm size.Word t n i) ≡ None → insn_of (code_of (StoreImm size.Word t n i)) ≡ Some (StoreImm size.Word t n i)
back_6000 t n i e = let b : (t.number < 8) × (n.number < 8) × (i < 128) × (i % 4 ≡ 0) = grind (arith, nat_tests) in row_6000 (24576 + i / 4 * 64 + low2 n t) (omega arith) (omega arith) ∙ cc (same_reg t (field (24576 + i / 4 * 64 + low2 n t) 0 3) (omega arith), same_reg n (field (24576 + i / 4 * 64 + low2 n t) 3 3) (omega arith), same i (4 * field (24576 + i / 4 * 64 + low2 n t) 6 5) (omega arith))

pub back_6800 : (t : Reg) (n : Reg) (i : ℕ) → fit_of (LoadImm size.Word t n i) ≡ None → insn_of (code_of (LoadImm size.Word t n i)) ≡ Some (LoadImm size.Word t n i)
back_6800 t n i e = let b : (t.number < 8) × (n.number < 8) × (i < 128) × (i % 4 ≡ 0) = grind (arith, nat_tests) in row_6800 (24576 + 2048 + i / 4 * 64 + low2 n t) (omega arith) (omega arith) ∙ cc (same_reg t (field (24576 + 2048 + i / 4 * 64 + low2 n t) 0 3) (omega arith), same_reg n (field (24576 + 2048 + i / 4 * 64 + low2 n t) 3 3) (omega arith), same i (4 * field (24576 + 2048 + i / 4 * 64 + low2 n t) 6 5) (omega arith))

pub back_7000 : (t : Reg) (n : Reg) (i : ℕ) → fit_of (StoreImm size.Byte t n i) ≡ None → insn_of (code_of (StoreImm size.Byte t n i)) ≡ Some (StoreImm size.Byte t n i)
back_7000 t n i e = let b : (t.number < 8) × (n.number < 8) × (i < 32) × (i % 1 ≡ 0) = grind (arith, nat_tests) in row_7000 (28672 + i / 1 * 64 + low2 n t) (omega arith) (omega arith) ∙ cc (same_reg t (field (28672 + i / 1 * 64 + low2 n t) 0 3) (omega arith), same_reg n (field (28672 + i / 1 * 64 + low2 n t) 3 3) (omega arith), same i (field (28672 + i / 1 * 64 + low2 n t) 6 5) (omega arith))

pub back_7800 : (t : Reg) (n : Reg) (i : ℕ) → fit_of (LoadImm size.Byte t n i) ≡ None → insn_of (code_of (LoadImm size.Byte t n i)) ≡ Some (LoadImm size.Byte t n i)
back_7800 t n i e = let b : (t.number < 8) × (n.number < 8) × (i < 32) × (i % 1 ≡ 0) = grind (arith, nat_tests) in row_7800 (28672 + 2048 + i / 1 * 64 + low2 n t) (omega arith) (omega arith) ∙ cc (same_reg t (field (28672 + 2048 + i / 1 * 64 + low2 n t) 0 3) (omega arith), same_reg n (field (28672 + 2048 + i / 1 * 64 + low2 n t) 3 3) (omega arith), same i (field (28672 + 2048 + i / 1 * 64 + low2 n t) 6 5) (omega arith))

pub back_8000 : (t : Reg) (n : Reg) (i : ℕ) → fit_of (StoreImm size.Half t n i) ≡ None → insn_of (code_of (StoreImm size.Half t n i)) ≡ Some (StoreImm size.Half t n i)
back_8000 t n i e = let b : (t.number < 8) × (n.number < 8) × (i < 64) × (i % 2 ≡ 0) = grind (arith, nat_tests) in row_8000 (32768 + i / 2 * 64 + low2 n t) (omega arith) (omega arith) ∙ cc (same_reg t (field (32768 + i / 2 * 64 + low2 n t) 0 3) (omega arith), same_reg n (field (32768 + i / 2 * 64 + low2 n t) 3 3) (omega arith), same i (2 * field (32768 + i / 2 * 64 + low2 n t) 6 5) (omega arith))

pub back_8800 : (t : Reg) (n : Reg) (i : ℕ) → fit_of (LoadImm size.Half t n i) ≡ None → insn_of (code_of (LoadImm size.Half t n i)) ≡ Some (LoadImm size.Half t n i)
back_8800 t n i e = let b : (t.number < 8) × (n.number < 8) × (i < 64) × (i % 2 ≡ 0) = grind (arith, nat_tests) in row_8800 (32768 + 2048 + i / 2 * 64 + low2 n t) (omega arith) (omega arith) ∙ cc (same_reg t (field (32768 + 2048 + i / 2 * 64 + low2 n t) 0 3) (omega arith), same_reg n (field (32768 + 2048 + i / 2 * 64 + low2 n t) 3 3) (omega arith), same i (2 * field (32768 + 2048 + i / 2 * 64 + low2 n t) 6 5) (omega arith))

pub back_4800 : (t : Reg) (i : ℕ) → fit_of (LdrLiteral t i) ≡ None → insn_of (code_of (LdrLiteral t i)) ≡ Some (LdrLiteral t i)
back_4800 t i e = let b : (t.number < 8) × (i < 1024) × (i % 4 ≡ 0) = grind (arith, nat_tests) in row_4800 (18432 + t.number * 256 + i / 4) (omega arith) (omega arith) ∙ cc (same_reg t (field (18432 + t.number * 256 + i / 4) 8 3) (omega arith), same i (4 * field (18432 + t.number * 256 + i / 4) 0 8) (omega arith))

pub back_9000 : (t : Reg) (i : ℕ) → fit_of (StoreSp t i) ≡ None → insn_of (code_of (StoreSp t i)) ≡ Some (StoreSp t i)
back_9000 t i e = let b : (t.number < 8) × (i < 1024) × (i % 4 ≡ 0) = grind (arith, nat_tests) in row_9000 (36864 + t.number * 256 + i / 4) (omega arith) (omega arith) ∙ cc (same_reg t (field (36864 + t.number * 256 + i / 4) 8 3) (omega arith), same i (4 * field (36864 + t.number * 256 + i / 4) 0 8) (omega arith))

pub back_9800 : (t : Reg) (i : ℕ) → fit_of (LoadSp t i) ≡ None → insn_of (code_of (LoadSp t i)) ≡ Some (LoadSp t i)
back_9800 t i e = let b : (t.number < 8) × (i < 1024) × (i % 4 ≡ 0) = grind (arith, nat_tests) in row_9800 (38912 + t.number * 256 + i / 4) (omega arith) (omega arith) ∙ cc (same_reg t (field (38912 + t.number * 256 + i / 4) 8 3) (omega arith), same i (4 * field (38912 + t.number * 256 + i / 4) 0 8) (omega arith))

pub back_a000 : (t : Reg) (i : ℕ) → fit_of (Adr t i) ≡ None → insn_of (code_of (Adr t i)) ≡ Some (Adr t i)
back_a000 t i e = let b : (t.number < 8) × (i < 1024) × (i % 4 ≡ 0) = grind (arith, nat_tests) in row_a000 (40960 + t.number * 256 + i / 4) (omega arith) (omega arith) ∙ cc (same_reg t (field (40960 + t.number * 256 + i / 4) 8 3) (omega arith), same i (4 * field (40960 + t.number * 256 + i / 4) 0 8) (omega arith))

pub back_a800 : (t : Reg) (i : ℕ) → fit_of (AddSp t i) ≡ None → insn_of (code_of (AddSp t i)) ≡ Some (AddSp t i)
back_a800 t i e = let b : (t.number < 8) × (i < 1024) × (i % 4 ≡ 0) = grind (arith, nat_tests) in row_a800 (43008 + t.number * 256 + i / 4) (omega arith) (omega arith) ∙ cc (same_reg t (field (43008 + t.number * 256 + i / 4) 8 3) (omega arith), same i (4 * field (43008 + t.number * 256 + i / 4) 0 8) (omega arith))

pub back_b000 : (i : ℕ) → fit_of (RaiseSp i) ≡ None → insn_of (code_of (RaiseSp i)) ≡ Some (RaiseSp i)
back_b000 i e = let b : (i < 512) × (i % 4 ≡ 0) = grind (arith, nat_tests) in row_b000 (45056 + i / 4) (omega arith) (omega arith) ∙ cc (same i (4 * field (45056 + i / 4) 0 7) (omega arith))

pub back_b080 : (i : ℕ) → fit_of (LowerSp i) ≡ None → insn_of (code_of (LowerSp i)) ≡ Some (LowerSp i)
back_b080 i e = let b : (i < 512) × (i % 4 ≡ 0) = grind (arith, nat_tests) in row_b080 (45184 + i / 4) (omega arith) (omega arith) ∙ cc (same i (4 * field (45184 + i / 4) 0 7) (omega arith))

pub back_b200 : (d : Reg) (m : Reg) → fit_of (Change bytes.Sxth d m) ≡ None → insn_of (code_of (Change bytes.Sxth d m)) ≡ Some (Change bytes.Sxth d m)
back_b200 d m e = let b : (d.number < 8) × (m.number < 8) = grind (arith, nat_tests) in row_b200 (45568 + low2 m d) (omega arith) (omega arith) ∙ cc (same_reg d (field (45568 + low2 m d) 0 3) (omega arith), same_reg m (field (45568 + low2 m d) 3 3) (omega arith))

pub back_b240 : (d : Reg) (m : Reg) → fit_of (Change bytes.Sxtb d m) ≡ None → insn_of (code_of (Change bytes.Sxtb d m)) ≡ Some (Change bytes.Sxtb d m)
back_b240 d m e = let b : (d.number < 8) × (m.number < 8) = grind (arith, nat_tests) in row_b240 (45632 + low2 m d) (omega arith) (omega arith) ∙ cc (same_reg d (field (45632 + low2 m d) 0 3) (omega arith), same_reg m (field (45632 + low2 m d) 3 3) (omega arith))

pub back_b280 : (d : Reg) (m : Reg) → fit_of (Change bytes.Uxth d m) ≡ None → insn_of (code_of (Change bytes.Uxth d m)) ≡ Some (Change bytes.Uxth d m)
back_b280 d m e = let b : (d.number < 8) × (m.number < 8) = grind (arith, nat_tests) in row_b280 (45696 + low2 m d) (omega arith) (omega arith) ∙ cc (same_reg d (field (45696 + low2 m d) 0 3) (omega arith), same_reg m (field (45696 + low2 m d) 3 3) (omega arith))

pub back_b2c0 : (d : Reg) (m : Reg) → fit_of (Change bytes.Uxtb d m) ≡ None → insn_of (code_of (Change bytes.Uxtb d m)) ≡ Some (Change bytes.Uxtb d m)
back_b2c0 d m e = let b : (d.number < 8) × (m.number < 8) = grind (arith, nat_tests) in row_b2c0 (45760 + low2 m d) (omega arith) (omega arith) ∙ cc (same_reg d (field (45760 + low2 m d) 0 3) (omega arith), same_reg m (field (45760 + low2 m d) 3 3) (omega arith))

pub back_ba00 : (d : Reg) (m : Reg) → fit_of (Change bytes.Rev d m) ≡ None → insn_of (code_of (Change bytes.Rev d m)) ≡ Some (Change bytes.Rev d m)
back_ba00 d m e = let b : (d.number < 8) × (m.number < 8) = grind (arith, nat_tests) in row_ba00 (47616 + low2 m d) (omega arith) (omega arith) ∙ cc (same_reg d (field (47616 + low2 m d) 0 3) (omega arith), same_reg m (field (47616 + low2 m d) 3 3) (omega arith))

pub back_ba40 : (d : Reg) (m : Reg) → fit_of (Change bytes.Rev16 d m) ≡ None → insn_of (code_of (Change bytes.Rev16 d m)) ≡ Some (Change bytes.Rev16 d m)
back_ba40 d m e = let b : (d.number < 8) × (m.number < 8) = grind (arith, nat_tests) in row_ba40 (47680 + low2 m d) (omega arith) (omega arith) ∙ cc (same_reg d (field (47680 + low2 m d) 0 3) (omega arith), same_reg m (field (47680 + low2 m d) 3 3) (omega arith))

pub back_bac0 : (d : Reg) (m : Reg) → fit_of (Change bytes.Revsh d m) ≡ None → insn_of (code_of (Change bytes.Revsh d m)) ≡ Some (Change bytes.Revsh d m)
back_bac0 d m e = let b : (d.number < 8) × (m.number < 8) = grind (arith, nat_tests) in row_bac0 (47808 + low2 m d) (omega arith) (omega arith) ∙ cc (same_reg d (field (47808 + low2 m d) 0 3) (omega arith), same_reg m (field (47808 + low2 m d) 3 3) (omega arith))

pub back_be00 : (i : ℕ) → fit_of (Bkpt i) ≡ None → insn_of (code_of (Bkpt i)) ≡ Some (Bkpt i)
back_be00 i e = let b : i < 256 = grind (arith, nat_tests) in row_be00 (48640 + i) (omega arith) (omega arith) ∙ cc (same i (field (48640 + i) 0 8) (omega arith))

pub back_df00 : (i : ℕ) → fit_of (Svc i) ≡ None → insn_of (code_of (Svc i)) ≡ Some (Svc i)
back_df00 i e = let b : i < 256 = grind (arith, nat_tests) in row_df00 (57088 + i) (omega arith) (omega arith) ∙ cc (same i (field (57088 + i) 0 8) (omega arith))

pub back_bf00 : (i : ℕ) → fit_of (Hint i) ≡ None → insn_of (code_of (Hint i)) ≡ Some (Hint i)
back_bf00 i e = let b : i < 16 = grind (arith, nat_tests) in row_bf00 (48896 + i * 16) (omega arith) (omega arith) (omega arith) ∙ cc (same i (field (48896 + i * 16) 4 4) (omega arith))

pub back_b662 : fit_of Cpsie ≡ None → insn_of (code_of Cpsie) ≡ Some Cpsie
back_b662 e = row_b662 46690 (omega arith) refl

pub back_b672 : fit_of Cpsid ≡ None → insn_of (code_of Cpsid) ≡ Some Cpsid
back_b672 e = row_b672 46706 (omega arith) refl

pub back_c800 : (n : Reg) (list : ℕ) → list < 256 → fit_of (Ldm n list) ≡ None → insn_of (code_of (Ldm n list)) ≡ Some (Ldm n list)
back_c800 n list p e = let b : (n.number < 8) × (0 < list) = grind (arith, nat_tests) in row_c800 (51200 + n.number * 256 + list) (omega arith) (omega arith) ∙ legal (omega arith) (cc (same_reg n (field (51200 + n.number * 256 + list) 8 3) (omega arith), same list (field (51200 + n.number * 256 + list) 0 8) (omega arith)))

pub back_d000 : (z : ℤ) → fit_of (BranchIf cond.Eq z) ≡ None → insn_of (code_of (BranchIf cond.Eq z)) ≡ Some (BranchIf cond.Eq z)
back_d000 z e = row_d000 (53248 + 0 * 256 + half_offset z 8) (omega arith) (omega arith) ∙ ap (λ (k : ℤ). Some (BranchIf cond.Eq k)) (back_offset8 53248 z (omega arith) (within8 z e))

pub back_d100 : (z : ℤ) → fit_of (BranchIf cond.Ne z) ≡ None → insn_of (code_of (BranchIf cond.Ne z)) ≡ Some (BranchIf cond.Ne z)
back_d100 z e = row_d100 (53248 + 1 * 256 + half_offset z 8) (omega arith) (omega arith) ∙ ap (λ (k : ℤ). Some (BranchIf cond.Ne k)) (back_offset8 53504 z (omega arith) (within8 z e))

pub back_d200 : (z : ℤ) → fit_of (BranchIf cond.Cs z) ≡ None → insn_of (code_of (BranchIf cond.Cs z)) ≡ Some (BranchIf cond.Cs z)
back_d200 z e = row_d200 (53248 + 2 * 256 + half_offset z 8) (omega arith) (omega arith) ∙ ap (λ (k : ℤ). Some (BranchIf cond.Cs k)) (back_offset8 53760 z (omega arith) (within8 z e))

pub back_d300 : (z : ℤ) → fit_of (BranchIf cond.Cc z) ≡ None → insn_of (code_of (BranchIf cond.Cc z)) ≡ Some (BranchIf cond.Cc z)
back_d300 z e = row_d300 (53248 + 3 * 256 + half_offset z 8) (omega arith) (omega arith) ∙ ap (λ (k : ℤ). Some (BranchIf cond.Cc k)) (back_offset8 54016 z (omega arith) (within8 z e))

pub back_d400 : (z : ℤ) → fit_of (BranchIf cond.Mi z) ≡ None → insn_of (code_of (BranchIf cond.Mi z)) ≡ Some (BranchIf cond.Mi z)
back_d400 z e = row_d400 (53248 + 4 * 256 + half_offset z 8) (omega arith) (omega arith) ∙ ap (λ (k : ℤ). Some (BranchIf cond.Mi k)) (back_offset8 54272 z (omega arith) (within8 z e))

pub back_d500 : (z : ℤ) → fit_of (BranchIf cond.Pl z) ≡ None → insn_of (code_of (BranchIf cond.Pl z)) ≡ Some (BranchIf cond.Pl z)
back_d500 z e = row_d500 (53248 + 5 * 256 + half_offset z 8) (omega arith) (omega arith) ∙ ap (λ (k : ℤ). Some (BranchIf cond.Pl k)) (back_offset8 54528 z (omega arith) (within8 z e))

pub back_d600 : (z : ℤ) → fit_of (BranchIf cond.Vs z) ≡ None → insn_of (code_of (BranchIf cond.Vs z)) ≡ Some (BranchIf cond.Vs z)
back_d600 z e = row_d600 (53248 + 6 * 256 + half_offset z 8) (omega arith) (omega arith) ∙ ap (λ (k : ℤ). Some (BranchIf cond.Vs k)) (back_offset8 54784 z (omega arith) (within8 z e))

pub back_d700 : (z : ℤ) → fit_of (BranchIf cond.Vc z) ≡ None → insn_of (code_of (BranchIf cond.Vc z)) ≡ Some (BranchIf cond.Vc z)
back_d700 z e = row_d700 (53248 + 7 * 256 + half_offset z 8) (omega arith) (omega arith) ∙ ap (λ (k : ℤ). Some (BranchIf cond.Vc k)) (back_offset8 55040 z (omega arith) (within8 z e))

pub back_d800 : (z : ℤ) → fit_of (BranchIf cond.Hi z) ≡ None → insn_of (code_of (BranchIf cond.Hi z)) ≡ Some (BranchIf cond.Hi z)
back_d800 z e = row_d800 (53248 + 8 * 256 + half_offset z 8) (omega arith) (omega arith) ∙ ap (λ (k : ℤ). Some (BranchIf cond.Hi k)) (back_offset8 55296 z (omega arith) (within8 z e))

pub back_d900 : (z : ℤ) → fit_of (BranchIf cond.Ls z) ≡ None → insn_of (code_of (BranchIf cond.Ls z)) ≡ Some (BranchIf cond.Ls z)
back_d900 z e = row_d900 (53248 + 9 * 256 + half_offset z 8) (omega arith) (omega arith) ∙ ap (λ (k : ℤ). Some (BranchIf cond.Ls k)) (back_offset8 55552 z (omega arith) (within8 z e))

pub back_da00 : (z : ℤ) → fit_of (BranchIf cond.Ge z) ≡ None → insn_of (code_of (BranchIf cond.Ge z)) ≡ Some (BranchIf cond.Ge z)
back_da00 z e = row_da00 (53248 + 10 * 256 + half_offset z 8) (omega arith) (omega arith) ∙ ap (λ (k : ℤ). Some (BranchIf cond.Ge k)) (back_offset8 55808 z (omega arith) (within8 z e))

pub back_db00 : (z : ℤ) → fit_of (BranchIf cond.Lt z) ≡ None → insn_of (code_of (BranchIf cond.Lt z)) ≡ Some (BranchIf cond.Lt z)
back_db00 z e = row_db00 (53248 + 11 * 256 + half_offset z 8) (omega arith) (omega arith) ∙ ap (λ (k : ℤ). Some (BranchIf cond.Lt k)) (back_offset8 56064 z (omega arith) (within8 z e))

pub back_dc00 : (z : ℤ) → fit_of (BranchIf cond.Gt z) ≡ None → insn_of (code_of (BranchIf cond.Gt z)) ≡ Some (BranchIf cond.Gt z)
back_dc00 z e = row_dc00 (53248 + 12 * 256 + half_offset z 8) (omega arith) (omega arith) ∙ ap (λ (k : ℤ). Some (BranchIf cond.Gt k)) (back_offset8 56320 z (omega arith) (within8 z e))

pub back_dd00 : (z : ℤ) → fit_of (BranchIf cond.Le z) ≡ None → insn_of (code_of (BranchIf cond.Le z)) ≡ Some (BranchIf cond.Le z)
back_dd00 z e = row_dd00 (53248 + 13 * 256 + half_offset z 8) (omega arith) (omega arith) ∙ ap (λ (k : ℤ). Some (BranchIf cond.Le k)) (back_offset8 56576 z (omega arith) (within8 z e))

pub back_4400 : (d : Reg) (m : Reg) → fit_of (AddHigh d m) ≡ None → insn_of (code_of (AddHigh d m)) ≡ Some (AddHigh d m)
back_4400 d m e = let b : (d.number < 16) × (m.number < 16) = grind (arith, nat_tests) in let s : 8 * field (17408 + m.number * 8 + split d) 7 1 + field (17408 + m.number * 8 + split d) 0 3 ≡ d.number = omega arith in let t : field (17408 + m.number * 8 + split d) 3 4 ≡ m.number = omega arith in row_4400 (17408 + m.number * 8 + split d) (omega arith) (omega arith) ∙ legal_if (grind (arith, nat_tests)) (cc (same_reg d (8 * field (17408 + m.number * 8 + split d) 7 1 + field (17408 + m.number * 8 + split d) 0 3) (omega arith), same_reg m (field (17408 + m.number * 8 + split d) 3 4) (omega arith)))

pub back_4500 : (n : Reg) (m : Reg) → fit_of (CmpHigh n m) ≡ None → insn_of (code_of (CmpHigh n m)) ≡ Some (CmpHigh n m)
back_4500 n m e = let b : (n.number < 16) × (m.number < 16) = grind (arith, nat_tests) in let s : 8 * field (17664 + m.number * 8 + split n) 7 1 + field (17664 + m.number * 8 + split n) 0 3 ≡ n.number = omega arith in let t : field (17664 + m.number * 8 + split n) 3 4 ≡ m.number = omega arith in row_4500 (17664 + m.number * 8 + split n) (omega arith) (omega arith) ∙ legal_if (grind (arith, nat_tests)) (cc (same_reg n (8 * field (17664 + m.number * 8 + split n) 7 1 + field (17664 + m.number * 8 + split n) 0 3) (omega arith), same_reg m (field (17664 + m.number * 8 + split n) 3 4) (omega arith)))

pub back_4600 : (d : Reg) (m : Reg) → fit_of (MovHigh d m) ≡ None → insn_of (code_of (MovHigh d m)) ≡ Some (MovHigh d m)
back_4600 d m e = let b : (d.number < 16) × (m.number < 16) = grind (arith, nat_tests) in row_4600 (17920 + m.number * 8 + split d) (omega arith) (omega arith) ∙ cc (same_reg d (8 * field (17920 + m.number * 8 + split d) 7 1 + field (17920 + m.number * 8 + split d) 0 3) (omega arith), same_reg m (field (17920 + m.number * 8 + split d) 3 4) (omega arith))

pub back_4700 : (m : Reg) → fit_of (Bx m) ≡ None → insn_of (code_of (Bx m)) ≡ Some (Bx m)
back_4700 m e = let b : m.number < 16 = grind (arith, nat_tests) in let t : field (18176 + m.number * 8) 3 4 ≡ m.number = omega arith in row_4700 (18176 + m.number * 8) (omega arith) (omega arith) (omega arith) ∙ legal_if (grind (arith, nat_tests)) (ap Bx (same_reg m (field (18176 + m.number * 8) 3 4) (omega arith)))

pub back_4780 : (m : Reg) → fit_of (Blx m) ≡ None → insn_of (code_of (Blx m)) ≡ Some (Blx m)
back_4780 m e = let b : m.number < 16 = grind (arith, nat_tests) in let t : field (18304 + m.number * 8) 3 4 ≡ m.number = omega arith in row_4780 (18304 + m.number * 8) (omega arith) (omega arith) (omega arith) ∙ legal_if (grind (arith, nat_tests)) (ap Blx (same_reg m (field (18304 + m.number * 8) 3 4) (omega arith)))

back_b400_true : (list : ℕ) → list < 256 → fit_of (Push list true) ≡ None → insn_of (code_of (Push list true)) ≡ Some (Push list true)
back_b400_true list p e = let q : field (46080 + flag true * 256 + list) 8 1 ≡ 1 = omega arith in let r : field (46080 + flag true * 256 + list) 0 8 ≡ list = omega arith in row_b400 (46080 + flag true * 256 + list) (omega arith) (omega arith) ∙ legal (omega arith) (ap (λ (x : ℕ). Push x (nat_eq (field (46080 + flag true * 256 + list) 8 1) 1)) r ∙ ap (λ (x : ℕ). Push list (nat_eq x 1)) q)

back_b400_false : (list : ℕ) → list < 256 → fit_of (Push list false) ≡ None → insn_of (code_of (Push list false)) ≡ Some (Push list false)
back_b400_false list p e = let z : 0 < list = grind (arith, nat_tests) in let q : field (46080 + flag false * 256 + list) 8 1 ≡ 0 = omega arith in let r : field (46080 + flag false * 256 + list) 0 8 ≡ list = omega arith in row_b400 (46080 + flag false * 256 + list) (omega arith) (omega arith) ∙ legal (omega arith) (ap (λ (x : ℕ). Push x (nat_eq (field (46080 + flag false * 256 + list) 8 1) 1)) r ∙ ap (λ (x : ℕ). Push list (nat_eq x 1)) q)

pub back_b400 : (list : ℕ) (more : Bool) → list < 256 → fit_of (Push list more) ≡ None → insn_of (code_of (Push list more)) ≡ Some (Push list more)
back_b400 list true p e = back_b400_true list p e
back_b400 list false p e = back_b400_false list p e

back_bc00_true : (list : ℕ) → list < 256 → fit_of (Pop list true) ≡ None → insn_of (code_of (Pop list true)) ≡ Some (Pop list true)
back_bc00_true list p e = let q : field (48128 + flag true * 256 + list) 8 1 ≡ 1 = omega arith in let r : field (48128 + flag true * 256 + list) 0 8 ≡ list = omega arith in row_bc00 (48128 + flag true * 256 + list) (omega arith) (omega arith) ∙ legal (omega arith) (ap (λ (x : ℕ). Pop x (nat_eq (field (48128 + flag true * 256 + list) 8 1) 1)) r ∙ ap (λ (x : ℕ). Pop list (nat_eq x 1)) q)

back_bc00_false : (list : ℕ) → list < 256 → fit_of (Pop list false) ≡ None → insn_of (code_of (Pop list false)) ≡ Some (Pop list false)
back_bc00_false list p e = let z : 0 < list = grind (arith, nat_tests) in let q : field (48128 + flag false * 256 + list) 8 1 ≡ 0 = omega arith in let r : field (48128 + flag false * 256 + list) 0 8 ≡ list = omega arith in row_bc00 (48128 + flag false * 256 + list) (omega arith) (omega arith) ∙ legal (omega arith) (ap (λ (x : ℕ). Pop x (nat_eq (field (48128 + flag false * 256 + list) 8 1) 1)) r ∙ ap (λ (x : ℕ). Pop list (nat_eq x 1)) q)

pub back_bc00 : (list : ℕ) (more : Bool) → list < 256 → fit_of (Pop list more) ≡ None → insn_of (code_of (Pop list more)) ≡ Some (Pop list more)
back_bc00 list true p e = back_bc00_true list p e
back_bc00 list false p e = back_bc00_false list p e

pub back_c000 : (n : Reg) (list : ℕ) → list < 256 → fit_of (Stm n list) ≡ None → insn_of (code_of (Stm n list)) ≡ Some (Stm n list)
back_c000 n list p e = let w = three (is_high n) (nat_eq list 0) (is_later list n.number) e in let b : (n.number < 8) × (0 < list) = grind (arith, nat_tests) in let r : field (49152 + n.number * 256 + list) 0 8 ≡ list = omega arith in let k : field (49152 + n.number * 256 + list) 8 3 ≡ n.number = omega arith in row_c000 (49152 + n.number * 256 + list) (omega arith) (omega arith) ∙ legal_if (stm_legal list n.number _ _ r k b.1 w.2) (cc (same_reg n (field (49152 + n.number * 256 + list) 8 3) k, r))

pub back_e000 : (z : ℤ) → fit_of (Branch z) ≡ None → insn_of (code_of (Branch z)) ≡ Some (Branch z)
back_e000 z e = row_e000 (57344 + half_offset z 11) (omega arith) (omega arith) ∙ ap (λ (k : ℤ). Some (Branch k)) (back_offset11 57344 z (omega arith) (within _ _ e))

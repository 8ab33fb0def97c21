-- The code of the instruction that a code has.
use Rattle.std.proofs.Common.{bit_and, ◌≡◌, ℕ, ◌*◌, ◌%◌, ◌<◌, true, not, ◌&&◌, ◌||◌, nat_eq, nat_lt, Some, None, arith, ap, subst}
use Rattle.std.proofs.lemmas.Bool.Decides.{nat_tests}
use Rattle.thumb_insn.specs.Table.{narrow_of, is_later, rows}
use Rattle.thumb_insn.specs.Fields.{low_reg, any_reg, split_reg, field, count, double, signed_field}
use Rattle.thumb_insn.specs.declared.Cond.TheVariants as cond
use Rattle.thumb_insn.specs.declared.Shift.TheVariants as shift
use Rattle.thumb_insn.specs.declared.Op.TheVariants as op
use Rattle.thumb_insn.specs.declared.Size.TheVariants as size
use Rattle.thumb_insn.specs.declared.Load.TheVariants as load
use Rattle.thumb_insn.specs.declared.Bytes.TheVariants as bytes
use Rattle.thumb_insn.specs.declared.Insn.{Insn}
use Rattle.thumb_insn.specs.declared.Insn.TheVariants.{ShiftImm, AddsReg, SubsReg, AddsImm3, SubsImm3, MovsImm, CmpImm, AddsImm8, SubsImm8, Data, AddHigh, CmpHigh, MovHigh, Bx, Blx, LdrLiteral, StoreReg, LoadReg, StoreImm, LoadImm, StoreSp, LoadSp, Adr, AddSp, RaiseSp, LowerSp, Change, Push, Pop, Cpsie, Cpsid, Bkpt, Hint, Stm, Ldm, BranchIf, Svc, Branch}
use Rattle.std.proofs.lemmas.Nat.{and_mask}
use Rattle.std.proofs.lemmas.Nat.Bits.{and_high}
use Rattle.thumb_insn.proofs.Rows.{mask_ff87, mask_ff0f}
use Rattle.thumb_insn.proofs.InRange.{AllRows, any_row, inner, only}
use Rattle.thumb_insn.specs.declared.Code.TheVariants.{One}
use Rattle.thumb_encode.specs.Codes.{fit_of, code_of, half_offset, flag}

count_back : (i : ℕ) → i < 32 → count i % 32 ≡ i
count_back i h = grind (arith, nat_tests)

flag_back : (b : ℕ) → b < 2 → flag (nat_eq b 1) ≡ b
flag_back b h = grind (arith, nat_tests)

half_back8 : (x : ℕ) → x < 256 → half_offset (double (signed_field 8 x)) 8 ≡ x
half_back8 x h = grind (arith, nat_tests)

half_back11 : (x : ℕ) → x < 2048 → half_offset (double (signed_field 11 x)) 11 ≡ x
half_back11 x h = grind (arith, nat_tests)

abbrev pub Codes : ℕ → Insn → Type 0
Codes h i = (fit_of i ≡ None) × (code_of i ≡ One h)

plain : {h : ℕ} {i j : Insn} → Some i ≡ Some j → Codes h i → Codes h j
plain {h} e c = let f = inner e in let P : Insn → Type 0 = Codes h in subst P f c

law_0000 : (h : ℕ) → h < 65536 → bit_and h 63488 ≡ 0 → (fit_of (ShiftImm shift.Lsl (low_reg h 0) (low_reg h 3) (field h 6 5)) ≡ None) × (code_of (ShiftImm shift.Lsl (low_reg h 0) (low_reg h 3) (field h 6 5)) ≡ One h)
law_0000 h f m = let q = and_high h 5 11 in (grind (arith, nat_tests), ap One (omega arith))

law_0800 : (h : ℕ) → h < 65536 → bit_and h 63488 ≡ 2048 → (fit_of (ShiftImm shift.Lsr (low_reg h 0) (low_reg h 3) (count (field h 6 5))) ≡ None) × (code_of (ShiftImm shift.Lsr (low_reg h 0) (low_reg h 3) (count (field h 6 5))) ≡ One h)
law_0800 h f m = let q = and_high h 5 11 in (grind (arith, nat_tests), ap One (omega (arith, count_back (field h 6 5) (omega arith))))

law_1000 : (h : ℕ) → h < 65536 → bit_and h 63488 ≡ 4096 → (fit_of (ShiftImm shift.Asr (low_reg h 0) (low_reg h 3) (count (field h 6 5))) ≡ None) × (code_of (ShiftImm shift.Asr (low_reg h 0) (low_reg h 3) (count (field h 6 5))) ≡ One h)
law_1000 h f m = let q = and_high h 5 11 in (grind (arith, nat_tests), ap One (omega (arith, count_back (field h 6 5) (omega arith))))

law_1800 : (h : ℕ) → h < 65536 → bit_and h 65024 ≡ 6144 → (fit_of (AddsReg (low_reg h 0) (low_reg h 3) (low_reg h 6)) ≡ None) × (code_of (AddsReg (low_reg h 0) (low_reg h 3) (low_reg h 6)) ≡ One h)
law_1800 h f m = let q = and_high h 7 9 in (grind (arith, nat_tests), ap One (omega arith))

law_1a00 : (h : ℕ) → h < 65536 → bit_and h 65024 ≡ 6656 → (fit_of (SubsReg (low_reg h 0) (low_reg h 3) (low_reg h 6)) ≡ None) × (code_of (SubsReg (low_reg h 0) (low_reg h 3) (low_reg h 6)) ≡ One h)
law_1a00 h f m = let q = and_high h 7 9 in (grind (arith, nat_tests), ap One (omega arith))

law_1c00 : (h : ℕ) → h < 65536 → bit_and h 65024 ≡ 7168 → (fit_of (AddsImm3 (low_reg h 0) (low_reg h 3) (field h 6 3)) ≡ None) × (code_of (AddsImm3 (low_reg h 0) (low_reg h 3) (field h 6 3)) ≡ One h)
law_1c00 h f m = let q = and_high h 7 9 in (grind (arith, nat_tests), ap One (omega arith))

law_1e00 : (h : ℕ) → h < 65536 → bit_and h 65024 ≡ 7680 → (fit_of (SubsImm3 (low_reg h 0) (low_reg h 3) (field h 6 3)) ≡ None) × (code_of (SubsImm3 (low_reg h 0) (low_reg h 3) (field h 6 3)) ≡ One h)
law_1e00 h f m = let q = and_high h 7 9 in (grind (arith, nat_tests), ap One (omega arith))

law_2000 : (h : ℕ) → h < 65536 → bit_and h 63488 ≡ 8192 → (fit_of (MovsImm (low_reg h 8) (field h 0 8)) ≡ None) × (code_of (MovsImm (low_reg h 8) (field h 0 8)) ≡ One h)
law_2000 h f m = let q = and_high h 5 11 in (grind (arith, nat_tests), ap One (omega arith))

law_2800 : (h : ℕ) → h < 65536 → bit_and h 63488 ≡ 10240 → (fit_of (CmpImm (low_reg h 8) (field h 0 8)) ≡ None) × (code_of (CmpImm (low_reg h 8) (field h 0 8)) ≡ One h)
law_2800 h f m = let q = and_high h 5 11 in (grind (arith, nat_tests), ap One (omega arith))

law_3000 : (h : ℕ) → h < 65536 → bit_and h 63488 ≡ 12288 → (fit_of (AddsImm8 (low_reg h 8) (field h 0 8)) ≡ None) × (code_of (AddsImm8 (low_reg h 8) (field h 0 8)) ≡ One h)
law_3000 h f m = let q = and_high h 5 11 in (grind (arith, nat_tests), ap One (omega arith))

law_3800 : (h : ℕ) → h < 65536 → bit_and h 63488 ≡ 14336 → (fit_of (SubsImm8 (low_reg h 8) (field h 0 8)) ≡ None) × (code_of (SubsImm8 (low_reg h 8) (field h 0 8)) ≡ One h)
law_3800 h f m = let q = and_high h 5 11 in (grind (arith, nat_tests), ap One (omega arith))

law_4000 : (h : ℕ) → h < 65536 → bit_and h 65472 ≡ 16384 → (fit_of (Data op.Ands (low_reg h 0) (low_reg h 3)) ≡ None) × (code_of (Data op.Ands (low_reg h 0) (low_reg h 3)) ≡ One h)
law_4000 h f m = let q = and_high h 10 6 in (grind (arith, nat_tests), ap One (omega arith))

law_4040 : (h : ℕ) → h < 65536 → bit_and h 65472 ≡ 16448 → (fit_of (Data op.Eors (low_reg h 0) (low_reg h 3)) ≡ None) × (code_of (Data op.Eors (low_reg h 0) (low_reg h 3)) ≡ One h)
law_4040 h f m = let q = and_high h 10 6 in (grind (arith, nat_tests), ap One (omega arith))

law_4080 : (h : ℕ) → h < 65536 → bit_and h 65472 ≡ 16512 → (fit_of (Data op.Lsls (low_reg h 0) (low_reg h 3)) ≡ None) × (code_of (Data op.Lsls (low_reg h 0) (low_reg h 3)) ≡ One h)
law_4080 h f m = let q = and_high h 10 6 in (grind (arith, nat_tests), ap One (omega arith))

law_40c0 : (h : ℕ) → h < 65536 → bit_and h 65472 ≡ 16576 → (fit_of (Data op.Lsrs (low_reg h 0) (low_reg h 3)) ≡ None) × (code_of (Data op.Lsrs (low_reg h 0) (low_reg h 3)) ≡ One h)
law_40c0 h f m = let q = and_high h 10 6 in (grind (arith, nat_tests), ap One (omega arith))

law_4100 : (h : ℕ) → h < 65536 → bit_and h 65472 ≡ 16640 → (fit_of (Data op.Asrs (low_reg h 0) (low_reg h 3)) ≡ None) × (code_of (Data op.Asrs (low_reg h 0) (low_reg h 3)) ≡ One h)
law_4100 h f m = let q = and_high h 10 6 in (grind (arith, nat_tests), ap One (omega arith))

law_4140 : (h : ℕ) → h < 65536 → bit_and h 65472 ≡ 16704 → (fit_of (Data op.Adcs (low_reg h 0) (low_reg h 3)) ≡ None) × (code_of (Data op.Adcs (low_reg h 0) (low_reg h 3)) ≡ One h)
law_4140 h f m = let q = and_high h 10 6 in (grind (arith, nat_tests), ap One (omega arith))

law_4180 : (h : ℕ) → h < 65536 → bit_and h 65472 ≡ 16768 → (fit_of (Data op.Sbcs (low_reg h 0) (low_reg h 3)) ≡ None) × (code_of (Data op.Sbcs (low_reg h 0) (low_reg h 3)) ≡ One h)
law_4180 h f m = let q = and_high h 10 6 in (grind (arith, nat_tests), ap One (omega arith))

law_41c0 : (h : ℕ) → h < 65536 → bit_and h 65472 ≡ 16832 → (fit_of (Data op.Rors (low_reg h 0) (low_reg h 3)) ≡ None) × (code_of (Data op.Rors (low_reg h 0) (low_reg h 3)) ≡ One h)
law_41c0 h f m = let q = and_high h 10 6 in (grind (arith, nat_tests), ap One (omega arith))

law_4200 : (h : ℕ) → h < 65536 → bit_and h 65472 ≡ 16896 → (fit_of (Data op.Tst (low_reg h 0) (low_reg h 3)) ≡ None) × (code_of (Data op.Tst (low_reg h 0) (low_reg h 3)) ≡ One h)
law_4200 h f m = let q = and_high h 10 6 in (grind (arith, nat_tests), ap One (omega arith))

law_4240 : (h : ℕ) → h < 65536 → bit_and h 65472 ≡ 16960 → (fit_of (Data op.Rsbs (low_reg h 0) (low_reg h 3)) ≡ None) × (code_of (Data op.Rsbs (low_reg h 0) (low_reg h 3)) ≡ One h)
law_4240 h f m = let q = and_high h 10 6 in (grind (arith, nat_tests), ap One (omega arith))

law_4280 : (h : ℕ) → h < 65536 → bit_and h 65472 ≡ 17024 → (fit_of (Data op.Cmp (low_reg h 0) (low_reg h 3)) ≡ None) × (code_of (Data op.Cmp (low_reg h 0) (low_reg h 3)) ≡ One h)
law_4280 h f m = let q = and_high h 10 6 in (grind (arith, nat_tests), ap One (omega arith))

law_42c0 : (h : ℕ) → h < 65536 → bit_and h 65472 ≡ 17088 → (fit_of (Data op.Cmn (low_reg h 0) (low_reg h 3)) ≡ None) × (code_of (Data op.Cmn (low_reg h 0) (low_reg h 3)) ≡ One h)
law_42c0 h f m = let q = and_high h 10 6 in (grind (arith, nat_tests), ap One (omega arith))

law_4300 : (h : ℕ) → h < 65536 → bit_and h 65472 ≡ 17152 → (fit_of (Data op.Orrs (low_reg h 0) (low_reg h 3)) ≡ None) × (code_of (Data op.Orrs (low_reg h 0) (low_reg h 3)) ≡ One h)
law_4300 h f m = let q = and_high h 10 6 in (grind (arith, nat_tests), ap One (omega arith))

law_4340 : (h : ℕ) → h < 65536 → bit_and h 65472 ≡ 17216 → (fit_of (Data op.Muls (low_reg h 0) (low_reg h 3)) ≡ None) × (code_of (Data op.Muls (low_reg h 0) (low_reg h 3)) ≡ One h)
law_4340 h f m = let q = and_high h 10 6 in (grind (arith, nat_tests), ap One (omega arith))

law_4380 : (h : ℕ) → h < 65536 → bit_and h 65472 ≡ 17280 → (fit_of (Data op.Bics (low_reg h 0) (low_reg h 3)) ≡ None) × (code_of (Data op.Bics (low_reg h 0) (low_reg h 3)) ≡ One h)
law_4380 h f m = let q = and_high h 10 6 in (grind (arith, nat_tests), ap One (omega arith))

law_43c0 : (h : ℕ) → h < 65536 → bit_and h 65472 ≡ 17344 → (fit_of (Data op.Mvns (low_reg h 0) (low_reg h 3)) ≡ None) × (code_of (Data op.Mvns (low_reg h 0) (low_reg h 3)) ≡ One h)
law_43c0 h f m = let q = and_high h 10 6 in (grind (arith, nat_tests), ap One (omega arith))

law_4400 : (h : ℕ) → h < 65536 → bit_and h 65280 ≡ 17408 → (not (nat_eq (split_reg h).number 15 && nat_eq (field h 3 4) 15)) ≡ true → (fit_of (AddHigh (split_reg h) (any_reg h 3)) ≡ None) × (code_of (AddHigh (split_reg h) (any_reg h 3)) ≡ One h)
law_4400 h f m t = let q = and_high h 8 8 in (grind (arith, nat_tests), ap One (omega arith))

law_4500 : (h : ℕ) → h < 65536 → bit_and h 65280 ≡ 17664 → (not ((nat_lt (split_reg h).number 8 && nat_lt (field h 3 4) 8) || nat_eq (split_reg h).number 15 || nat_eq (field h 3 4) 15)) ≡ true → (fit_of (CmpHigh (split_reg h) (any_reg h 3)) ≡ None) × (code_of (CmpHigh (split_reg h) (any_reg h 3)) ≡ One h)
law_4500 h f m t = let q = and_high h 8 8 in (grind (arith, nat_tests), ap One (omega arith))

law_4600 : (h : ℕ) → h < 65536 → bit_and h 65280 ≡ 17920 → (fit_of (MovHigh (split_reg h) (any_reg h 3)) ≡ None) × (code_of (MovHigh (split_reg h) (any_reg h 3)) ≡ One h)
law_4600 h f m = let q = and_high h 8 8 in (grind (arith, nat_tests), ap One (omega arith))

law_4700 : (h : ℕ) → h < 65536 → bit_and h 65415 ≡ 18176 → (not (nat_eq (field h 3 4) 15)) ≡ true → (fit_of (Bx (any_reg h 3)) ≡ None) × (code_of (Bx (any_reg h 3)) ≡ One h)
law_4700 h f m t = let q = mask_ff87 h in (grind (arith, nat_tests), ap One (omega arith))

law_4780 : (h : ℕ) → h < 65536 → bit_and h 65415 ≡ 18304 → (not (nat_eq (field h 3 4) 15)) ≡ true → (fit_of (Blx (any_reg h 3)) ≡ None) × (code_of (Blx (any_reg h 3)) ≡ One h)
law_4780 h f m t = let q = mask_ff87 h in (grind (arith, nat_tests), ap One (omega arith))

law_4800 : (h : ℕ) → h < 65536 → bit_and h 63488 ≡ 18432 → (fit_of (LdrLiteral (low_reg h 8) (4 * field h 0 8)) ≡ None) × (code_of (LdrLiteral (low_reg h 8) (4 * field h 0 8)) ≡ One h)
law_4800 h f m = let q = and_high h 5 11 in (grind (arith, nat_tests), ap One (omega arith))

law_5000 : (h : ℕ) → h < 65536 → bit_and h 65024 ≡ 20480 → (fit_of (StoreReg size.Word (low_reg h 0) (low_reg h 3) (low_reg h 6)) ≡ None) × (code_of (StoreReg size.Word (low_reg h 0) (low_reg h 3) (low_reg h 6)) ≡ One h)
law_5000 h f m = let q = and_high h 7 9 in (grind (arith, nat_tests), ap One (omega arith))

law_5200 : (h : ℕ) → h < 65536 → bit_and h 65024 ≡ 20992 → (fit_of (StoreReg size.Half (low_reg h 0) (low_reg h 3) (low_reg h 6)) ≡ None) × (code_of (StoreReg size.Half (low_reg h 0) (low_reg h 3) (low_reg h 6)) ≡ One h)
law_5200 h f m = let q = and_high h 7 9 in (grind (arith, nat_tests), ap One (omega arith))

law_5400 : (h : ℕ) → h < 65536 → bit_and h 65024 ≡ 21504 → (fit_of (StoreReg size.Byte (low_reg h 0) (low_reg h 3) (low_reg h 6)) ≡ None) × (code_of (StoreReg size.Byte (low_reg h 0) (low_reg h 3) (low_reg h 6)) ≡ One h)
law_5400 h f m = let q = and_high h 7 9 in (grind (arith, nat_tests), ap One (omega arith))

law_5600 : (h : ℕ) → h < 65536 → bit_and h 65024 ≡ 22016 → (fit_of (LoadReg load.SignedByte (low_reg h 0) (low_reg h 3) (low_reg h 6)) ≡ None) × (code_of (LoadReg load.SignedByte (low_reg h 0) (low_reg h 3) (low_reg h 6)) ≡ One h)
law_5600 h f m = let q = and_high h 7 9 in (grind (arith, nat_tests), ap One (omega arith))

law_5800 : (h : ℕ) → h < 65536 → bit_and h 65024 ≡ 22528 → (fit_of (LoadReg (load.Whole size.Word) (low_reg h 0) (low_reg h 3) (low_reg h 6)) ≡ None) × (code_of (LoadReg (load.Whole size.Word) (low_reg h 0) (low_reg h 3) (low_reg h 6)) ≡ One h)
law_5800 h f m = let q = and_high h 7 9 in (grind (arith, nat_tests), ap One (omega arith))

law_5a00 : (h : ℕ) → h < 65536 → bit_and h 65024 ≡ 23040 → (fit_of (LoadReg (load.Whole size.Half) (low_reg h 0) (low_reg h 3) (low_reg h 6)) ≡ None) × (code_of (LoadReg (load.Whole size.Half) (low_reg h 0) (low_reg h 3) (low_reg h 6)) ≡ One h)
law_5a00 h f m = let q = and_high h 7 9 in (grind (arith, nat_tests), ap One (omega arith))

law_5c00 : (h : ℕ) → h < 65536 → bit_and h 65024 ≡ 23552 → (fit_of (LoadReg (load.Whole size.Byte) (low_reg h 0) (low_reg h 3) (low_reg h 6)) ≡ None) × (code_of (LoadReg (load.Whole size.Byte) (low_reg h 0) (low_reg h 3) (low_reg h 6)) ≡ One h)
law_5c00 h f m = let q = and_high h 7 9 in (grind (arith, nat_tests), ap One (omega arith))

law_5e00 : (h : ℕ) → h < 65536 → bit_and h 65024 ≡ 24064 → (fit_of (LoadReg load.SignedHalf (low_reg h 0) (low_reg h 3) (low_reg h 6)) ≡ None) × (code_of (LoadReg load.SignedHalf (low_reg h 0) (low_reg h 3) (low_reg h 6)) ≡ One h)
law_5e00 h f m = let q = and_high h 7 9 in (grind (arith, nat_tests), ap One (omega arith))

law_6000 : (h : ℕ) → h < 65536 → bit_and h 63488 ≡ 24576 → (fit_of (StoreImm size.Word (low_reg h 0) (low_reg h 3) (4 * field h 6 5)) ≡ None) × (code_of (StoreImm size.Word (low_reg h 0) (low_reg h 3) (4 * field h 6 5)) ≡ One h)
law_6000 h f m = let q = and_high h 5 11 in (grind (arith, nat_tests), ap One (omega arith))

law_6800 : (h : ℕ) → h < 65536 → bit_and h 63488 ≡ 26624 → (fit_of (LoadImm size.Word (low_reg h 0) (low_reg h 3) (4 * field h 6 5)) ≡ None) × (code_of (LoadImm size.Word (low_reg h 0) (low_reg h 3) (4 * field h 6 5)) ≡ One h)
law_6800 h f m = let q = and_high h 5 11 in (grind (arith, nat_tests), ap One (omega arith))

law_7000 : (h : ℕ) → h < 65536 → bit_and h 63488 ≡ 28672 → (fit_of (StoreImm size.Byte (low_reg h 0) (low_reg h 3) (field h 6 5)) ≡ None) × (code_of (StoreImm size.Byte (low_reg h 0) (low_reg h 3) (field h 6 5)) ≡ One h)
law_7000 h f m = let q = and_high h 5 11 in (grind (arith, nat_tests), ap One (omega arith))

law_7800 : (h : ℕ) → h < 65536 → bit_and h 63488 ≡ 30720 → (fit_of (LoadImm size.Byte (low_reg h 0) (low_reg h 3) (field h 6 5)) ≡ None) × (code_of (LoadImm size.Byte (low_reg h 0) (low_reg h 3) (field h 6 5)) ≡ One h)
law_7800 h f m = let q = and_high h 5 11 in (grind (arith, nat_tests), ap One (omega arith))

law_8000 : (h : ℕ) → h < 65536 → bit_and h 63488 ≡ 32768 → (fit_of (StoreImm size.Half (low_reg h 0) (low_reg h 3) (2 * field h 6 5)) ≡ None) × (code_of (StoreImm size.Half (low_reg h 0) (low_reg h 3) (2 * field h 6 5)) ≡ One h)
law_8000 h f m = let q = and_high h 5 11 in (grind (arith, nat_tests), ap One (omega arith))

law_8800 : (h : ℕ) → h < 65536 → bit_and h 63488 ≡ 34816 → (fit_of (LoadImm size.Half (low_reg h 0) (low_reg h 3) (2 * field h 6 5)) ≡ None) × (code_of (LoadImm size.Half (low_reg h 0) (low_reg h 3) (2 * field h 6 5)) ≡ One h)
law_8800 h f m = let q = and_high h 5 11 in (grind (arith, nat_tests), ap One (omega arith))

law_9000 : (h : ℕ) → h < 65536 → bit_and h 63488 ≡ 36864 → (fit_of (StoreSp (low_reg h 8) (4 * field h 0 8)) ≡ None) × (code_of (StoreSp (low_reg h 8) (4 * field h 0 8)) ≡ One h)
law_9000 h f m = let q = and_high h 5 11 in (grind (arith, nat_tests), ap One (omega arith))

law_9800 : (h : ℕ) → h < 65536 → bit_and h 63488 ≡ 38912 → (fit_of (LoadSp (low_reg h 8) (4 * field h 0 8)) ≡ None) × (code_of (LoadSp (low_reg h 8) (4 * field h 0 8)) ≡ One h)
law_9800 h f m = let q = and_high h 5 11 in (grind (arith, nat_tests), ap One (omega arith))

law_a000 : (h : ℕ) → h < 65536 → bit_and h 63488 ≡ 40960 → (fit_of (Adr (low_reg h 8) (4 * field h 0 8)) ≡ None) × (code_of (Adr (low_reg h 8) (4 * field h 0 8)) ≡ One h)
law_a000 h f m = let q = and_high h 5 11 in (grind (arith, nat_tests), ap One (omega arith))

law_a800 : (h : ℕ) → h < 65536 → bit_and h 63488 ≡ 43008 → (fit_of (AddSp (low_reg h 8) (4 * field h 0 8)) ≡ None) × (code_of (AddSp (low_reg h 8) (4 * field h 0 8)) ≡ One h)
law_a800 h f m = let q = and_high h 5 11 in (grind (arith, nat_tests), ap One (omega arith))

law_b000 : (h : ℕ) → h < 65536 → bit_and h 65408 ≡ 45056 → (fit_of (RaiseSp (4 * field h 0 7)) ≡ None) × (code_of (RaiseSp (4 * field h 0 7)) ≡ One h)
law_b000 h f m = let q = and_high h 9 7 in (grind (arith, nat_tests), ap One (omega arith))

law_b080 : (h : ℕ) → h < 65536 → bit_and h 65408 ≡ 45184 → (fit_of (LowerSp (4 * field h 0 7)) ≡ None) × (code_of (LowerSp (4 * field h 0 7)) ≡ One h)
law_b080 h f m = let q = and_high h 9 7 in (grind (arith, nat_tests), ap One (omega arith))

law_b200 : (h : ℕ) → h < 65536 → bit_and h 65472 ≡ 45568 → (fit_of (Change bytes.Sxth (low_reg h 0) (low_reg h 3)) ≡ None) × (code_of (Change bytes.Sxth (low_reg h 0) (low_reg h 3)) ≡ One h)
law_b200 h f m = let q = and_high h 10 6 in (grind (arith, nat_tests), ap One (omega arith))

law_b240 : (h : ℕ) → h < 65536 → bit_and h 65472 ≡ 45632 → (fit_of (Change bytes.Sxtb (low_reg h 0) (low_reg h 3)) ≡ None) × (code_of (Change bytes.Sxtb (low_reg h 0) (low_reg h 3)) ≡ One h)
law_b240 h f m = let q = and_high h 10 6 in (grind (arith, nat_tests), ap One (omega arith))

law_b280 : (h : ℕ) → h < 65536 → bit_and h 65472 ≡ 45696 → (fit_of (Change bytes.Uxth (low_reg h 0) (low_reg h 3)) ≡ None) × (code_of (Change bytes.Uxth (low_reg h 0) (low_reg h 3)) ≡ One h)
law_b280 h f m = let q = and_high h 10 6 in (grind (arith, nat_tests), ap One (omega arith))

law_b2c0 : (h : ℕ) → h < 65536 → bit_and h 65472 ≡ 45760 → (fit_of (Change bytes.Uxtb (low_reg h 0) (low_reg h 3)) ≡ None) × (code_of (Change bytes.Uxtb (low_reg h 0) (low_reg h 3)) ≡ One h)
law_b2c0 h f m = let q = and_high h 10 6 in (grind (arith, nat_tests), ap One (omega arith))

law_b400 : (h : ℕ) → h < 65536 → bit_and h 65024 ≡ 46080 → (nat_lt 0 (field h 0 9)) ≡ true → (fit_of (Push (field h 0 8) (nat_eq (field h 8 1) 1)) ≡ None) × (code_of (Push (field h 0 8) (nat_eq (field h 8 1) 1)) ≡ One h)
law_b400 h f m t = let q = and_high h 7 9 in (grind (arith, nat_tests), ap One (omega (arith, flag_back (field h 8 1) (omega arith))))

law_bc00 : (h : ℕ) → h < 65536 → bit_and h 65024 ≡ 48128 → (nat_lt 0 (field h 0 9)) ≡ true → (fit_of (Pop (field h 0 8) (nat_eq (field h 8 1) 1)) ≡ None) × (code_of (Pop (field h 0 8) (nat_eq (field h 8 1) 1)) ≡ One h)
law_bc00 h f m t = let q = and_high h 7 9 in (grind (arith, nat_tests), ap One (omega (arith, flag_back (field h 8 1) (omega arith))))

law_ba00 : (h : ℕ) → h < 65536 → bit_and h 65472 ≡ 47616 → (fit_of (Change bytes.Rev (low_reg h 0) (low_reg h 3)) ≡ None) × (code_of (Change bytes.Rev (low_reg h 0) (low_reg h 3)) ≡ One h)
law_ba00 h f m = let q = and_high h 10 6 in (grind (arith, nat_tests), ap One (omega arith))

law_ba40 : (h : ℕ) → h < 65536 → bit_and h 65472 ≡ 47680 → (fit_of (Change bytes.Rev16 (low_reg h 0) (low_reg h 3)) ≡ None) × (code_of (Change bytes.Rev16 (low_reg h 0) (low_reg h 3)) ≡ One h)
law_ba40 h f m = let q = and_high h 10 6 in (grind (arith, nat_tests), ap One (omega arith))

law_bac0 : (h : ℕ) → h < 65536 → bit_and h 65472 ≡ 47808 → (fit_of (Change bytes.Revsh (low_reg h 0) (low_reg h 3)) ≡ None) × (code_of (Change bytes.Revsh (low_reg h 0) (low_reg h 3)) ≡ One h)
law_bac0 h f m = let q = and_high h 10 6 in (grind (arith, nat_tests), ap One (omega arith))

law_b662 : (h : ℕ) → h < 65536 → bit_and h 65535 ≡ 46690 → (fit_of (Cpsie) ≡ None) × (code_of (Cpsie) ≡ One h)
law_b662 h f m = let q = and_mask h 16 in (grind (arith, nat_tests), ap One (omega arith))

law_b672 : (h : ℕ) → h < 65536 → bit_and h 65535 ≡ 46706 → (fit_of (Cpsid) ≡ None) × (code_of (Cpsid) ≡ One h)
law_b672 h f m = let q = and_mask h 16 in (grind (arith, nat_tests), ap One (omega arith))

law_be00 : (h : ℕ) → h < 65536 → bit_and h 65280 ≡ 48640 → (fit_of (Bkpt (field h 0 8)) ≡ None) × (code_of (Bkpt (field h 0 8)) ≡ One h)
law_be00 h f m = let q = and_high h 8 8 in (grind (arith, nat_tests), ap One (omega arith))

law_bf00 : (h : ℕ) → h < 65536 → bit_and h 65295 ≡ 48896 → (fit_of (Hint (field h 4 4)) ≡ None) × (code_of (Hint (field h 4 4)) ≡ One h)
law_bf00 h f m = let q = mask_ff0f h in (grind (arith, nat_tests), ap One (omega arith))

law_c000 : (h : ℕ) → h < 65536 → bit_and h 63488 ≡ 49152 → (nat_lt 0 (field h 0 8) && not (is_later (field h 0 8) (field h 8 3))) ≡ true → (fit_of (Stm (low_reg h 8) (field h 0 8)) ≡ None) × (code_of (Stm (low_reg h 8) (field h 0 8)) ≡ One h)
law_c000 h f m t = let q = and_high h 5 11 in (grind (arith, nat_tests), ap One (omega arith))

law_c800 : (h : ℕ) → h < 65536 → bit_and h 63488 ≡ 51200 → (nat_lt 0 (field h 0 8)) ≡ true → (fit_of (Ldm (low_reg h 8) (field h 0 8)) ≡ None) × (code_of (Ldm (low_reg h 8) (field h 0 8)) ≡ One h)
law_c800 h f m t = let q = and_high h 5 11 in (grind (arith, nat_tests), ap One (omega arith))

law_d000 : (h : ℕ) → h < 65536 → bit_and h 65280 ≡ 53248 → (fit_of (BranchIf cond.Eq (double (signed_field 8 (field h 0 8)))) ≡ None) × (code_of (BranchIf cond.Eq (double (signed_field 8 (field h 0 8)))) ≡ One h)
law_d000 h f m = let q = and_high h 8 8 in (grind (arith, nat_tests), ap One (omega (arith, half_back8 (field h 0 8) (omega arith))))

law_d100 : (h : ℕ) → h < 65536 → bit_and h 65280 ≡ 53504 → (fit_of (BranchIf cond.Ne (double (signed_field 8 (field h 0 8)))) ≡ None) × (code_of (BranchIf cond.Ne (double (signed_field 8 (field h 0 8)))) ≡ One h)
law_d100 h f m = let q = and_high h 8 8 in (grind (arith, nat_tests), ap One (omega (arith, half_back8 (field h 0 8) (omega arith))))

law_d200 : (h : ℕ) → h < 65536 → bit_and h 65280 ≡ 53760 → (fit_of (BranchIf cond.Cs (double (signed_field 8 (field h 0 8)))) ≡ None) × (code_of (BranchIf cond.Cs (double (signed_field 8 (field h 0 8)))) ≡ One h)
law_d200 h f m = let q = and_high h 8 8 in (grind (arith, nat_tests), ap One (omega (arith, half_back8 (field h 0 8) (omega arith))))

law_d300 : (h : ℕ) → h < 65536 → bit_and h 65280 ≡ 54016 → (fit_of (BranchIf cond.Cc (double (signed_field 8 (field h 0 8)))) ≡ None) × (code_of (BranchIf cond.Cc (double (signed_field 8 (field h 0 8)))) ≡ One h)
law_d300 h f m = let q = and_high h 8 8 in (grind (arith, nat_tests), ap One (omega (arith, half_back8 (field h 0 8) (omega arith))))

law_d400 : (h : ℕ) → h < 65536 → bit_and h 65280 ≡ 54272 → (fit_of (BranchIf cond.Mi (double (signed_field 8 (field h 0 8)))) ≡ None) × (code_of (BranchIf cond.Mi (double (signed_field 8 (field h 0 8)))) ≡ One h)
law_d400 h f m = let q = and_high h 8 8 in (grind (arith, nat_tests), ap One (omega (arith, half_back8 (field h 0 8) (omega arith))))

law_d500 : (h : ℕ) → h < 65536 → bit_and h 65280 ≡ 54528 → (fit_of (BranchIf cond.Pl (double (signed_field 8 (field h 0 8)))) ≡ None) × (code_of (BranchIf cond.Pl (double (signed_field 8 (field h 0 8)))) ≡ One h)
law_d500 h f m = let q = and_high h 8 8 in (grind (arith, nat_tests), ap One (omega (arith, half_back8 (field h 0 8) (omega arith))))

law_d600 : (h : ℕ) → h < 65536 → bit_and h 65280 ≡ 54784 → (fit_of (BranchIf cond.Vs (double (signed_field 8 (field h 0 8)))) ≡ None) × (code_of (BranchIf cond.Vs (double (signed_field 8 (field h 0 8)))) ≡ One h)
law_d600 h f m = let q = and_high h 8 8 in (grind (arith, nat_tests), ap One (omega (arith, half_back8 (field h 0 8) (omega arith))))

law_d700 : (h : ℕ) → h < 65536 → bit_and h 65280 ≡ 55040 → (fit_of (BranchIf cond.Vc (double (signed_field 8 (field h 0 8)))) ≡ None) × (code_of (BranchIf cond.Vc (double (signed_field 8 (field h 0 8)))) ≡ One h)
law_d700 h f m = let q = and_high h 8 8 in (grind (arith, nat_tests), ap One (omega (arith, half_back8 (field h 0 8) (omega arith))))

law_d800 : (h : ℕ) → h < 65536 → bit_and h 65280 ≡ 55296 → (fit_of (BranchIf cond.Hi (double (signed_field 8 (field h 0 8)))) ≡ None) × (code_of (BranchIf cond.Hi (double (signed_field 8 (field h 0 8)))) ≡ One h)
law_d800 h f m = let q = and_high h 8 8 in (grind (arith, nat_tests), ap One (omega (arith, half_back8 (field h 0 8) (omega arith))))

law_d900 : (h : ℕ) → h < 65536 → bit_and h 65280 ≡ 55552 → (fit_of (BranchIf cond.Ls (double (signed_field 8 (field h 0 8)))) ≡ None) × (code_of (BranchIf cond.Ls (double (signed_field 8 (field h 0 8)))) ≡ One h)
law_d900 h f m = let q = and_high h 8 8 in (grind (arith, nat_tests), ap One (omega (arith, half_back8 (field h 0 8) (omega arith))))

law_da00 : (h : ℕ) → h < 65536 → bit_and h 65280 ≡ 55808 → (fit_of (BranchIf cond.Ge (double (signed_field 8 (field h 0 8)))) ≡ None) × (code_of (BranchIf cond.Ge (double (signed_field 8 (field h 0 8)))) ≡ One h)
law_da00 h f m = let q = and_high h 8 8 in (grind (arith, nat_tests), ap One (omega (arith, half_back8 (field h 0 8) (omega arith))))

law_db00 : (h : ℕ) → h < 65536 → bit_and h 65280 ≡ 56064 → (fit_of (BranchIf cond.Lt (double (signed_field 8 (field h 0 8)))) ≡ None) × (code_of (BranchIf cond.Lt (double (signed_field 8 (field h 0 8)))) ≡ One h)
law_db00 h f m = let q = and_high h 8 8 in (grind (arith, nat_tests), ap One (omega (arith, half_back8 (field h 0 8) (omega arith))))

law_dc00 : (h : ℕ) → h < 65536 → bit_and h 65280 ≡ 56320 → (fit_of (BranchIf cond.Gt (double (signed_field 8 (field h 0 8)))) ≡ None) × (code_of (BranchIf cond.Gt (double (signed_field 8 (field h 0 8)))) ≡ One h)
law_dc00 h f m = let q = and_high h 8 8 in (grind (arith, nat_tests), ap One (omega (arith, half_back8 (field h 0 8) (omega arith))))

law_dd00 : (h : ℕ) → h < 65536 → bit_and h 65280 ≡ 56576 → (fit_of (BranchIf cond.Le (double (signed_field 8 (field h 0 8)))) ≡ None) × (code_of (BranchIf cond.Le (double (signed_field 8 (field h 0 8)))) ≡ One h)
law_dd00 h f m = let q = and_high h 8 8 in (grind (arith, nat_tests), ap One (omega (arith, half_back8 (field h 0 8) (omega arith))))

law_df00 : (h : ℕ) → h < 65536 → bit_and h 65280 ≡ 57088 → (fit_of (Svc (field h 0 8)) ≡ None) × (code_of (Svc (field h 0 8)) ≡ One h)
law_df00 h f m = let q = and_high h 8 8 in (grind (arith, nat_tests), ap One (omega arith))

law_e000 : (h : ℕ) → h < 65536 → bit_and h 63488 ≡ 57344 → (fit_of (Branch (double (signed_field 11 (field h 0 11)))) ≡ None) × (code_of (Branch (double (signed_field 11 (field h 0 11)))) ≡ One h)
law_e000 h f m = let q = and_high h 5 11 in (grind (arith, nat_tests), ap One (omega (arith, half_back11 (field h 0 11) (omega arith))))

all_rows : AllRows Codes rows
unfolding rows
all_rows = ((λ h f m i e. plain e (law_0000 h f m)), ((λ h f m i e. plain e (law_0800 h f m)), ((λ h f m i e. plain e (law_1000 h f m)), ((λ h f m i e. plain e (law_1800 h f m)), ((λ h f m i e. plain e (law_1a00 h f m)), ((λ h f m i e. plain e (law_1c00 h f m)), ((λ h f m i e. plain e (law_1e00 h f m)), ((λ h f m i e. plain e (law_2000 h f m)), ((λ h f m i e. plain e (law_2800 h f m)), ((λ h f m i e. plain e (law_3000 h f m)), ((λ h f m i e. plain e (law_3800 h f m)), ((λ h f m i e. plain e (law_4000 h f m)), ((λ h f m i e. plain e (law_4040 h f m)), ((λ h f m i e. plain e (law_4080 h f m)), ((λ h f m i e. plain e (law_40c0 h f m)), ((λ h f m i e. plain e (law_4100 h f m)), ((λ h f m i e. plain e (law_4140 h f m)), ((λ h f m i e. plain e (law_4180 h f m)), ((λ h f m i e. plain e (law_41c0 h f m)), ((λ h f m i e. plain e (law_4200 h f m)), ((λ h f m i e. plain e (law_4240 h f m)), ((λ h f m i e. plain e (law_4280 h f m)), ((λ h f m i e. plain e (law_42c0 h f m)), ((λ h f m i e. plain e (law_4300 h f m)), ((λ h f m i e. plain e (law_4340 h f m)), ((λ h f m i e. plain e (law_4380 h f m)), ((λ h f m i e. plain e (law_43c0 h f m)), ((λ h f m i e. let o = only e in plain (ap Some o.1) (law_4400 h f m o.0)), ((λ h f m i e. let o = only e in plain (ap Some o.1) (law_4500 h f m o.0)), ((λ h f m i e. plain e (law_4600 h f m)), ((λ h f m i e. let o = only e in plain (ap Some o.1) (law_4700 h f m o.0)), ((λ h f m i e. let o = only e in plain (ap Some o.1) (law_4780 h f m o.0)), ((λ h f m i e. plain e (law_4800 h f m)), ((λ h f m i e. plain e (law_5000 h f m)), ((λ h f m i e. plain e (law_5200 h f m)), ((λ h f m i e. plain e (law_5400 h f m)), ((λ h f m i e. plain e (law_5600 h f m)), ((λ h f m i e. plain e (law_5800 h f m)), ((λ h f m i e. plain e (law_5a00 h f m)), ((λ h f m i e. plain e (law_5c00 h f m)), ((λ h f m i e. plain e (law_5e00 h f m)), ((λ h f m i e. plain e (law_6000 h f m)), ((λ h f m i e. plain e (law_6800 h f m)), ((λ h f m i e. plain e (law_7000 h f m)), ((λ h f m i e. plain e (law_7800 h f m)), ((λ h f m i e. plain e (law_8000 h f m)), ((λ h f m i e. plain e (law_8800 h f m)), ((λ h f m i e. plain e (law_9000 h f m)), ((λ h f m i e. plain e (law_9800 h f m)), ((λ h f m i e. plain e (law_a000 h f m)), ((λ h f m i e. plain e (law_a800 h f m)), ((λ h f m i e. plain e (law_b000 h f m)), ((λ h f m i e. plain e (law_b080 h f m)), ((λ h f m i e. plain e (law_b200 h f m)), ((λ h f m i e. plain e (law_b240 h f m)), ((λ h f m i e. plain e (law_b280 h f m)), ((λ h f m i e. plain e (law_b2c0 h f m)), ((λ h f m i e. let o = only e in plain (ap Some o.1) (law_b400 h f m o.0)), ((λ h f m i e. let o = only e in plain (ap Some o.1) (law_bc00 h f m o.0)), ((λ h f m i e. plain e (law_ba00 h f m)), ((λ h f m i e. plain e (law_ba40 h f m)), ((λ h f m i e. plain e (law_bac0 h f m)), ((λ h f m i e. plain e (law_b662 h f m)), ((λ h f m i e. plain e (law_b672 h f m)), ((λ h f m i e. plain e (law_be00 h f m)), ((λ h f m i e. plain e (law_bf00 h f m)), ((λ h f m i e. let o = only e in plain (ap Some o.1) (law_c000 h f m o.0)), ((λ h f m i e. let o = only e in plain (ap Some o.1) (law_c800 h f m o.0)), ((λ h f m i e. plain e (law_d000 h f m)), ((λ h f m i e. plain e (law_d100 h f m)), ((λ h f m i e. plain e (law_d200 h f m)), ((λ h f m i e. plain e (law_d300 h f m)), ((λ h f m i e. plain e (law_d400 h f m)), ((λ h f m i e. plain e (law_d500 h f m)), ((λ h f m i e. plain e (law_d600 h f m)), ((λ h f m i e. plain e (law_d700 h f m)), ((λ h f m i e. plain e (law_d800 h f m)), ((λ h f m i e. plain e (law_d900 h f m)), ((λ h f m i e. plain e (law_da00 h f m)), ((λ h f m i e. plain e (law_db00 h f m)), ((λ h f m i e. plain e (law_dc00 h f m)), ((λ h f m i e. plain e (law_dd00 h f m)), ((λ h f m i e. plain e (law_df00 h f m)), ((λ h f m i e. plain e (law_e000 h f m)), tt))))))))))))))))))))))))))))))))))))))))))))))))))))))))))))))))))))))))))))))))))))

-- the code of the instruction that a halfword codes is the halfword
pub code_again : (h : ℕ) (i : Insn) → h < 65536 → narrow_of h ≡ Some i → (fit_of i ≡ None) × (code_of i ≡ One h)
unfolding narrow_of
code_again h i f e = any_row Codes rows all_rows h f i e

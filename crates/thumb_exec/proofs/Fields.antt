-- What the table says, besides their range, of the fields that change PC or SP.
use Rattle.std.specs.Prelude.{◌≡◌, ◌≢◌, ◌<◌, ℕ, ◌+◌, ◌-◌, ◌*◌, ◌/◌, ◌%◌, ◌^◌, Bool, true, false, ℤ, pos, negsuc, nat_eq, Some, ◌||◌, not}
use Rattle.std.proofs.Common.{arith, refl, ap, sym, subst, ◌∙◌}
use Rattle.std.proofs.lemmas.Bool.{false≢true, eq-eqb}
use Rattle.std.proofs.lemmas.Nat.{mod_below}
use Rattle.thumb_insn.specs.Fields.{field, low_reg, signed_field, double}
use Rattle.thumb_insn.specs.declared.Cond.TheVariants as cond
use Rattle.thumb_insn.specs.declared.Insn.{Insn}
use Rattle.thumb_insn.specs.declared.Insn.TheVariants.{ShiftImm, AddsReg, SubsReg, AddsImm3, SubsImm3, MovsImm, CmpImm, AddsImm8, SubsImm8, Data, AddHigh, CmpHigh, MovHigh, Bx, Blx, LdrLiteral, StoreReg, LoadReg, StoreImm, LoadImm, StoreSp, LoadSp, Adr, AddSp, RaiseSp, LowerSp, Change, Push, Pop, Cpsie, Cpsid, Bkpt, Hint, Stm, Ldm, BranchIf, Svc, Branch, Bl, Fence, Mrs, Msr}
use Rattle.thumb_insn.specs.Table.{rows, wide_rows, narrow_of, wide_of}
use Rattle.thumb_insn.specs.Range.{IsCoded}
use Rattle.thumb_insn.specs.declared.Code.TheVariants.{One, Two}
use Rattle.thumb_insn.proofs.InRange.{AllRows, any_row, any_wide, inner, only}
use Rattle.thumb_exec.specs.Effect.{word_of}

-- a register that is neither SP nor PC
abbrev pub IsPlain : ℕ → Type 0
IsPlain i = (i ≢ 13) × (i ≢ 15)

-- offsets are even, a value that is added to SP is a multiple of 4, lists are bytes, and MRS does not write SP or PC
abbrev pub IsExtra : Insn → Type 0
IsExtra (ShiftImm a b d e) = Unit {0}
IsExtra (AddsReg a b d) = Unit {0}
IsExtra (SubsReg a b d) = Unit {0}
IsExtra (AddsImm3 a b d) = Unit {0}
IsExtra (SubsImm3 a b d) = Unit {0}
IsExtra (MovsImm a b) = Unit {0}
IsExtra (CmpImm a b) = Unit {0}
IsExtra (AddsImm8 a b) = Unit {0}
IsExtra (SubsImm8 a b) = Unit {0}
IsExtra (Data a b d) = Unit {0}
IsExtra (AddHigh a b) = Unit {0}
IsExtra (CmpHigh a b) = Unit {0}
IsExtra (MovHigh a b) = Unit {0}
IsExtra (Bx a) = Unit {0}
IsExtra (Blx a) = Unit {0}
IsExtra (LdrLiteral a b) = Unit {0}
IsExtra (StoreReg a b d e) = Unit {0}
IsExtra (LoadReg a b d e) = Unit {0}
IsExtra (StoreImm a b d e) = Unit {0}
IsExtra (LoadImm a b d e) = Unit {0}
IsExtra (StoreSp a b) = Unit {0}
IsExtra (LoadSp a b) = Unit {0}
IsExtra (Adr a b) = Unit {0}
IsExtra (AddSp a b) = Unit {0}
IsExtra (RaiseSp i) = i % 4 ≡ 0
IsExtra (LowerSp i) = (2 ^ 32 - i) % 4 ≡ 0
IsExtra (Change a b d) = Unit {0}
IsExtra (Push a b) = Unit {0}
IsExtra (Pop list p) = list < 256
IsExtra Cpsie = Unit {0}
IsExtra Cpsid = Unit {0}
IsExtra (Bkpt a) = Unit {0}
IsExtra (Hint a) = Unit {0}
IsExtra (Stm a b) = Unit {0}
IsExtra (Ldm n list) = list < 256
IsExtra (BranchIf k o) = word_of o % 2 ≡ 0
IsExtra (Svc a) = Unit {0}
IsExtra (Branch o) = word_of o % 2 ≡ 0
IsExtra (Bl o) = word_of o % 2 ≡ 0
IsExtra (Fence a b) = Unit {0}
IsExtra (Mrs d) = IsPlain d.number
IsExtra (Msr a) = Unit {0}

plainE : {i j : Insn} → Some i ≡ Some j → IsExtra i → IsExtra j
plainE e c = subst IsExtra (inner e) c

double_even : (z : ℤ) → word_of (double z) % 2 ≡ 0
double_even (pos n) = omega arith
double_even (negsuc n) = omega arith

ex_b000 : (h : ℕ) → IsExtra (RaiseSp (4 * field h 0 7))
ex_b000 h = omega arith

ex_b080 : (h : ℕ) → IsExtra (LowerSp (4 * field h 0 7))
ex_b080 h = omega arith

ex_bc00 : (h : ℕ) → IsExtra (Pop (field h 0 8) (nat_eq (field h 8 1) 1))
ex_bc00 h = mod_below (h / 2 ^ 0) 256 (omega arith)

ex_c800 : (h : ℕ) → IsExtra (Ldm (low_reg h 8) (field h 0 8))
ex_c800 h = mod_below (h / 2 ^ 0) 256 (omega arith)

ex_d000 : (h : ℕ) → IsExtra (BranchIf cond.Eq (double (signed_field 8 (field h 0 8))))
ex_d000 h = double_even (signed_field 8 (field h 0 8))

ex_d100 : (h : ℕ) → IsExtra (BranchIf cond.Ne (double (signed_field 8 (field h 0 8))))
ex_d100 h = double_even (signed_field 8 (field h 0 8))

ex_d200 : (h : ℕ) → IsExtra (BranchIf cond.Cs (double (signed_field 8 (field h 0 8))))
ex_d200 h = double_even (signed_field 8 (field h 0 8))

ex_d300 : (h : ℕ) → IsExtra (BranchIf cond.Cc (double (signed_field 8 (field h 0 8))))
ex_d300 h = double_even (signed_field 8 (field h 0 8))

ex_d400 : (h : ℕ) → IsExtra (BranchIf cond.Mi (double (signed_field 8 (field h 0 8))))
ex_d400 h = double_even (signed_field 8 (field h 0 8))

ex_d500 : (h : ℕ) → IsExtra (BranchIf cond.Pl (double (signed_field 8 (field h 0 8))))
ex_d500 h = double_even (signed_field 8 (field h 0 8))

ex_d600 : (h : ℕ) → IsExtra (BranchIf cond.Vs (double (signed_field 8 (field h 0 8))))
ex_d600 h = double_even (signed_field 8 (field h 0 8))

ex_d700 : (h : ℕ) → IsExtra (BranchIf cond.Vc (double (signed_field 8 (field h 0 8))))
ex_d700 h = double_even (signed_field 8 (field h 0 8))

ex_d800 : (h : ℕ) → IsExtra (BranchIf cond.Hi (double (signed_field 8 (field h 0 8))))
ex_d800 h = double_even (signed_field 8 (field h 0 8))

ex_d900 : (h : ℕ) → IsExtra (BranchIf cond.Ls (double (signed_field 8 (field h 0 8))))
ex_d900 h = double_even (signed_field 8 (field h 0 8))

ex_da00 : (h : ℕ) → IsExtra (BranchIf cond.Ge (double (signed_field 8 (field h 0 8))))
ex_da00 h = double_even (signed_field 8 (field h 0 8))

ex_db00 : (h : ℕ) → IsExtra (BranchIf cond.Lt (double (signed_field 8 (field h 0 8))))
ex_db00 h = double_even (signed_field 8 (field h 0 8))

ex_dc00 : (h : ℕ) → IsExtra (BranchIf cond.Gt (double (signed_field 8 (field h 0 8))))
ex_dc00 h = double_even (signed_field 8 (field h 0 8))

ex_dd00 : (h : ℕ) → IsExtra (BranchIf cond.Le (double (signed_field 8 (field h 0 8))))
ex_dd00 h = double_even (signed_field 8 (field h 0 8))

ex_e000 : (h : ℕ) → IsExtra (Branch (double (signed_field 11 (field h 0 11))))
ex_e000 h = double_even (signed_field 11 (field h 0 11))

all_extra : AllRows (λ h i. IsExtra i) rows
unfolding rows
all_extra = ((λ h f m i e. plainE e tt), ((λ h f m i e. plainE e tt), ((λ h f m i e. plainE e tt), ((λ h f m i e. plainE e tt), ((λ h f m i e. plainE e tt), ((λ h f m i e. plainE e tt), ((λ h f m i e. plainE e tt), ((λ h f m i e. plainE e tt), ((λ h f m i e. plainE e tt), ((λ h f m i e. plainE e tt), ((λ h f m i e. plainE e tt), ((λ h f m i e. plainE e tt), ((λ h f m i e. plainE e tt), ((λ h f m i e. plainE e tt), ((λ h f m i e. plainE e tt), ((λ h f m i e. plainE e tt), ((λ h f m i e. plainE e tt), ((λ h f m i e. plainE e tt), ((λ h f m i e. plainE e tt), ((λ h f m i e. plainE e tt), ((λ h f m i e. plainE e tt), ((λ h f m i e. plainE e tt), ((λ h f m i e. plainE e tt), ((λ h f m i e. plainE e tt), ((λ h f m i e. plainE e tt), ((λ h f m i e. plainE e tt), ((λ h f m i e. plainE e tt), ((λ h f m i e. plainE (ap Some (only e).1) tt), ((λ h f m i e. plainE (ap Some (only e).1) tt), ((λ h f m i e. plainE e tt), ((λ h f m i e. plainE (ap Some (only e).1) tt), ((λ h f m i e. plainE (ap Some (only e).1) tt), ((λ h f m i e. plainE e tt), ((λ h f m i e. plainE e tt), ((λ h f m i e. plainE e tt), ((λ h f m i e. plainE e tt), ((λ h f m i e. plainE e tt), ((λ h f m i e. plainE e tt), ((λ h f m i e. plainE e tt), ((λ h f m i e. plainE e tt), ((λ h f m i e. plainE e tt), ((λ h f m i e. plainE e tt), ((λ h f m i e. plainE e tt), ((λ h f m i e. plainE e tt), ((λ h f m i e. plainE e tt), ((λ h f m i e. plainE e tt), ((λ h f m i e. plainE e tt), ((λ h f m i e. plainE e tt), ((λ h f m i e. plainE e tt), ((λ h f m i e. plainE e tt), ((λ h f m i e. plainE e tt), ((λ h f m i e. plainE e (ex_b000 h)), ((λ h f m i e. plainE e (ex_b080 h)), ((λ h f m i e. plainE e tt), ((λ h f m i e. plainE e tt), ((λ h f m i e. plainE e tt), ((λ h f m i e. plainE e tt), ((λ h f m i e. plainE (ap Some (only e).1) tt), ((λ h f m i e. plainE (ap Some (only e).1) (ex_bc00 h)), ((λ h f m i e. plainE e tt), ((λ h f m i e. plainE e tt), ((λ h f m i e. plainE e tt), ((λ h f m i e. plainE e tt), ((λ h f m i e. plainE e tt), ((λ h f m i e. plainE e tt), ((λ h f m i e. plainE e tt), ((λ h f m i e. plainE (ap Some (only e).1) tt), ((λ h f m i e. plainE (ap Some (only e).1) (ex_c800 h)), ((λ h f m i e. plainE e (ex_d000 h)), ((λ h f m i e. plainE e (ex_d100 h)), ((λ h f m i e. plainE e (ex_d200 h)), ((λ h f m i e. plainE e (ex_d300 h)), ((λ h f m i e. plainE e (ex_d400 h)), ((λ h f m i e. plainE e (ex_d500 h)), ((λ h f m i e. plainE e (ex_d600 h)), ((λ h f m i e. plainE e (ex_d700 h)), ((λ h f m i e. plainE e (ex_d800 h)), ((λ h f m i e. plainE e (ex_d900 h)), ((λ h f m i e. plainE e (ex_da00 h)), ((λ h f m i e. plainE e (ex_db00 h)), ((λ h f m i e. plainE e (ex_dc00 h)), ((λ h f m i e. plainE e (ex_dd00 h)), ((λ h f m i e. plainE e tt), ((λ h f m i e. plainE e (ex_e000 h)), tt))))))))))))))))))))))))))))))))))))))))))))))))))))))))))))))))))))))))))))))))))))

not_either : (a b : Bool) → not (a || b) ≡ true → (a ≡ false) × (b ≡ false)
not_either false false h = (refl, refl)
not_either true b h = absurd cc
not_either false true h = absurd cc

extra_wide : (c : ℕ) (i : Insn) → wide_of c ≡ Some i → IsExtra i
unfolding wide_of wide_rows
extra_wide c i e = any_wide (λ h i. IsExtra i) wide_rows ((λ h m i e. plainE e (double_even _)), ((λ h m i e. plainE e tt), ((λ h m i e. plainE e tt), ((λ h m i e. plainE e tt), ((λ h m i e. plainE (ap Some (only e).1) (plain_reg h (only e).0)), ((λ h m i e. plainE (ap Some (only e).1) tt), tt)))))) c i e
  where
    plain_reg : (h : ℕ) → not (nat_eq (field h 8 4) 13 || nat_eq (field h 8 4) 15) ≡ true → IsPlain (field h 8 4)
    plain_reg h q = let two = not_either (nat_eq (field h 8 4) 13) (nat_eq (field h 8 4) 15) q in (λ s. false≢true (sym two.0 ∙ eq-eqb _ _ s), λ s. false≢true (sym two.1 ∙ eq-eqb _ _ s))

extra_narrow : (h : ℕ) (i : Insn) → h < 65536 → narrow_of h ≡ Some i → IsExtra i
unfolding narrow_of
extra_narrow h i f e = any_row (λ h i. IsExtra i) rows all_extra h f i e

pub coded_extra : (i : Insn) → IsCoded i → IsExtra i
coded_extra i (One h, lt, e) = extra_narrow h i lt e
coded_extra i (Two first second, lt, e) = extra_wide (first * 65536 + second) i e

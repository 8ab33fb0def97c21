-- The text of each instruction has at least one byte, and all are printable.
use Rattle.std.proofs.Common.{◌≡◌, ℕ, suc, zero, ◌/◌, ◌%◌, ◌^◌, ◌<◌, Bool, true, false, cond, eqb, List, [], ◌∷◌, ◌++◌, length, map, refl, arith}
use Rattle.std.specs.Fmt.{digits, digits_onto, digit_glyph}
use Rattle.std.specs.Prelude.{decimal, codes}
use Rattle.std.specs.List.{list_all}
use Rattle.std.proofs.lemmas.Bool.Decides.{nat_tests}
use Rattle.std.proofs.lemmas.List.{length-append}
use Rattle.text_lines.specs.Text.{is_digit}
use Rattle.thumb_insn.specs.Fields.{is_listed}
use Rattle.thumb_insn.specs.Text.{register_name, reg_text, imm, hex_word, place, joined, at_sum, braces, low_registers, and_also, op_text, shift_text, store_name, load_name, change_name, branch_name, barrier_name, line, hint_text, raised, insn_text}
use Rattle.thumb_insn.specs.declared.Reg.{Reg}
use Rattle.thumb_insn.specs.declared.Cond.{Cond}
use Rattle.thumb_insn.specs.declared.Cond.TheVariants as when
use Rattle.thumb_insn.specs.declared.Shift.{Shift}
use Rattle.thumb_insn.specs.declared.Shift.TheVariants as shift
use Rattle.thumb_insn.specs.declared.Op.{Op}
use Rattle.thumb_insn.specs.declared.Op.TheVariants as op
use Rattle.thumb_insn.specs.declared.Size.{Size}
use Rattle.thumb_insn.specs.declared.Size.TheVariants as size
use Rattle.thumb_insn.specs.declared.Load.{Load}
use Rattle.thumb_insn.specs.declared.Load.TheVariants as load
use Rattle.thumb_insn.specs.declared.Bytes.{Bytes}
use Rattle.thumb_insn.specs.declared.Bytes.TheVariants as bytes
use Rattle.thumb_insn.specs.declared.Barrier.{Barrier}
use Rattle.thumb_insn.specs.declared.Barrier.TheVariants as barrier
use Rattle.thumb_insn.specs.declared.Insn.{Insn}
use Rattle.thumb_insn.specs.declared.Insn.TheVariants.{ShiftImm, AddsReg, SubsReg, AddsImm3, SubsImm3, MovsImm, CmpImm, AddsImm8, SubsImm8, Data, AddHigh, CmpHigh, MovHigh, Bx, Blx, LdrLiteral, StoreReg, LoadReg, StoreImm, LoadImm, StoreSp, LoadSp, Adr, AddSp, RaiseSp, LowerSp, Change, Push, Pop, Cpsie, Cpsid, Bkpt, Hint, Stm, Ldm, BranchIf, Svc, Branch, Bl, Fence, Mrs, Msr}
use Rattle.trace_audit.specs.Fields.{is_low_hex}
use Rattle.trace_audit.specs.Judgements.{is_printable}
use Rattle.thumb_insn.specs.declared.Decoded.{Decoded}
use Rattle.thumb_insn.specs.declared.Decoded.TheVariants as decoded
use Rattle.trace_text.specs.Text.{decoded_text}
use Rattle.audit_laws.specs.Told.{IsInsn}
use Rattle.audit_laws.proofs.Spelling.{all_joined, all_weaker}
use Rattle.audit_laws.proofs.Hexes.{all_low}

-- at least one byte, all printable
abbrev pub IsText : List ℕ → Type 0
IsText text = (0 < length text) × (list_all is_printable text ≡ true)

abbrev Printable : List ℕ → Type 0
Printable xs = list_all is_printable xs ≡ true

abbrev ArePrintable : List (List ℕ) → Type 0
ArePrintable [] = Unit {0}
ArePrintable (x ∷ xs) = Printable x × ArePrintable xs

-- ## numbers

digit_here : (d : ℕ) → d < 10 → is_digit (digit_glyph false d) ≡ true
digit_here d h = grind (arith, nat_tests)

digit_more : (d : ℕ) (acc : List ℕ) → d < 10 → list_all is_digit acc ≡ true → list_all is_digit (digit_glyph false d ∷ acc) ≡ true
digit_more d acc h k = rw (digit_here d h, k) refl

either : (b : Bool) (xs ys : List ℕ) → list_all is_digit xs ≡ true → list_all is_digit ys ≡ true → list_all is_digit (cond b xs ys) ≡ true
either true xs ys h k = h
either false xs ys h k = k

digits_all : (k n : ℕ) (acc : List ℕ) → list_all is_digit acc ≡ true → list_all is_digit (digits_onto k 10 false n acc) ≡ true
digits_all zero n acc h = h
digits_all (suc k) n acc h = let all = digit_more (n % 10) acc (omega arith) h in either (eqb (n / 10) 0) _ _ all (digits_all k (n / 10) (digit_glyph false (n % 10) ∷ acc) all)

decimal_digits : (n : ℕ) → list_all is_digit (decimal n) ≡ true
unfolding digits
decimal_digits n = digits_all 64 n [] refl

digit_printable : (c : ℕ) → is_digit c ≡ true → is_printable c ≡ true
digit_printable c h = grind (arith, nat_tests)

decimal_printable : (n : ℕ) → Printable (decimal n)
decimal_printable n = all_weaker is_digit is_printable digit_printable (decimal n) (decimal_digits n)

low_printable : (c : ℕ) → is_low_hex c ≡ true → is_printable c ≡ true
low_printable c h = grind (arith, nat_tests)

word_low : (n : ℕ) → list_all is_low_hex (hex_word n) ≡ true
unfolding hex_word
word_low n = all_low (n / 16 ^ 7 ∷ n / 16 ^ 6 ∷ n / 16 ^ 5 ∷ n / 16 ^ 4 ∷ n / 16 ^ 3 ∷ n / 16 ^ 2 ∷ n / 16 ∷ n ∷ [])

place_printable : (n : ℕ) → Printable (place n)
place_printable n = all_weaker is_low_hex is_printable low_printable (hex_word n) (word_low n)

imm_printable : (n : ℕ) → Printable (imm n)
imm_printable n = decimal_printable n

-- ## operands

name_printable : (k : ℕ) → Printable (register_name k)
name_printable k = by (eqb k 13) (eqb k 14) (eqb k 15)
  where
    by : (a b c : Bool) → Printable (cond a (codes "sp") (cond b (codes "lr") (cond c (codes "pc") (codes "r" ++ decimal k))))
    by true b c = refl
    by false true c = refl
    by false false true = refl
    by false false false = decimal_printable k

reg_printable : (r : Reg) → Printable (reg_text r)
reg_printable r = name_printable r.number

raised_printable : (r : Reg) → Printable (raised r)
raised_printable r = all_joined is_printable (reg_text r) (codes "!") (reg_printable r) refl

joined_printable : (xs : List (List ℕ)) → ArePrintable xs → Printable (joined xs)
joined_printable [] h = refl
joined_printable (x ∷ []) h = h.0
joined_printable (x ∷ y ∷ ys) h = all_joined is_printable (x ++ codes ", ") (joined (y ∷ ys)) (all_joined is_printable x (codes ", ") h.0 refl) (joined_printable (y ∷ ys) h.1)

sum_printable : (base more : List ℕ) → Printable base → Printable more → Printable (at_sum base more)
sum_printable base more h k = all_joined is_printable (codes "[" ++ joined (base ∷ more ∷ [])) (codes "]") (joined_printable (base ∷ more ∷ []) (h, (k, tt))) refl

names_printable : (ks : List ℕ) → ArePrintable (map register_name ks)
names_printable [] = tt
names_printable (k ∷ ks) = (name_printable k, names_printable ks)

braces_printable : (ks : List ℕ) → Printable (braces ks)
braces_printable ks = all_joined is_printable (codes "{" ++ joined (map register_name ks)) (codes "}") (joined_printable (map register_name ks) (names_printable ks)) refl

-- ## lines

line_is_text : (name : List ℕ) (operands : List (List ℕ)) → IsText name → ArePrintable operands → IsText (line name operands)
line_is_text name operands h k = (some, all_joined is_printable (name ++ codes " ") (joined operands) (all_joined is_printable name (codes " ") h.1 refl) (joined_printable operands k))
  where
    some : 0 < length (line name operands)
    some = let a = length-append (name ++ codes " ") (joined operands) in let b = length-append name (codes " ") in let c = h.0 in omega arith

-- with one operand, two or three
one : (name a : List ℕ) → IsText name → Printable a → IsText (line name (a ∷ []))
one name a h p = line_is_text name (a ∷ []) h (p, tt)

two : (name a b : List ℕ) → IsText name → Printable a → Printable b → IsText (line name (a ∷ b ∷ []))
two name a b h p q = line_is_text name (a ∷ b ∷ []) h (p, (q, tt))

three : (name a b c : List ℕ) → IsText name → Printable a → Printable b → Printable c → IsText (line name (a ∷ b ∷ c ∷ []))
three name a b c h p q r = line_is_text name (a ∷ b ∷ c ∷ []) h (p, (q, (r, tt)))

store_is_text : (s : Size) → IsText (store_name s)
store_is_text size.Word = (omega arith, refl)
store_is_text size.Half = (omega arith, refl)
store_is_text size.Byte = (omega arith, refl)

load_is_text : (l : Load) → IsText (load_name l)
load_is_text (load.Whole size.Word) = (omega arith, refl)
load_is_text (load.Whole size.Half) = (omega arith, refl)
load_is_text (load.Whole size.Byte) = (omega arith, refl)
load_is_text load.SignedHalf = (omega arith, refl)
load_is_text load.SignedByte = (omega arith, refl)

change_is_text : (b : Bytes) → IsText (change_name b)
change_is_text bytes.Sxth = (omega arith, refl)
change_is_text bytes.Sxtb = (omega arith, refl)
change_is_text bytes.Uxth = (omega arith, refl)
change_is_text bytes.Uxtb = (omega arith, refl)
change_is_text bytes.Rev = (omega arith, refl)
change_is_text bytes.Rev16 = (omega arith, refl)
change_is_text bytes.Revsh = (omega arith, refl)

branch_is_text : (c : Cond) → IsText (branch_name c)
branch_is_text when.Eq = (omega arith, refl)
branch_is_text when.Ne = (omega arith, refl)
branch_is_text when.Cs = (omega arith, refl)
branch_is_text when.Cc = (omega arith, refl)
branch_is_text when.Mi = (omega arith, refl)
branch_is_text when.Pl = (omega arith, refl)
branch_is_text when.Vs = (omega arith, refl)
branch_is_text when.Vc = (omega arith, refl)
branch_is_text when.Hi = (omega arith, refl)
branch_is_text when.Ls = (omega arith, refl)
branch_is_text when.Ge = (omega arith, refl)
branch_is_text when.Lt = (omega arith, refl)
branch_is_text when.Gt = (omega arith, refl)
branch_is_text when.Le = (omega arith, refl)

barrier_is_text : (b : Barrier) → IsText (barrier_name b)
barrier_is_text barrier.Dsb = (omega arith, refl)
barrier_is_text barrier.Dmb = (omega arith, refl)
barrier_is_text barrier.Isb = (omega arith, refl)

op_is_text : (o : Op) (d m : Reg) → IsText (op_text o d m)
op_is_text op.Ands d m = two (codes "ands") (reg_text d) (reg_text m) (omega arith, refl) (reg_printable d) (reg_printable m)
op_is_text op.Eors d m = two (codes "eors") (reg_text d) (reg_text m) (omega arith, refl) (reg_printable d) (reg_printable m)
op_is_text op.Lsls d m = two (codes "lsls") (reg_text d) (reg_text m) (omega arith, refl) (reg_printable d) (reg_printable m)
op_is_text op.Lsrs d m = two (codes "lsrs") (reg_text d) (reg_text m) (omega arith, refl) (reg_printable d) (reg_printable m)
op_is_text op.Asrs d m = two (codes "asrs") (reg_text d) (reg_text m) (omega arith, refl) (reg_printable d) (reg_printable m)
op_is_text op.Adcs d m = two (codes "adcs") (reg_text d) (reg_text m) (omega arith, refl) (reg_printable d) (reg_printable m)
op_is_text op.Sbcs d m = two (codes "sbcs") (reg_text d) (reg_text m) (omega arith, refl) (reg_printable d) (reg_printable m)
op_is_text op.Rors d m = two (codes "rors") (reg_text d) (reg_text m) (omega arith, refl) (reg_printable d) (reg_printable m)
op_is_text op.Tst d m = two (codes "tst") (reg_text d) (reg_text m) (omega arith, refl) (reg_printable d) (reg_printable m)
op_is_text op.Rsbs d m = three (codes "rsbs") (reg_text d) (reg_text m) (imm 0) (omega arith, refl) (reg_printable d) (reg_printable m) (imm_printable 0)
op_is_text op.Cmp d m = two (codes "cmp") (reg_text d) (reg_text m) (omega arith, refl) (reg_printable d) (reg_printable m)
op_is_text op.Cmn d m = two (codes "cmn") (reg_text d) (reg_text m) (omega arith, refl) (reg_printable d) (reg_printable m)
op_is_text op.Orrs d m = two (codes "orrs") (reg_text d) (reg_text m) (omega arith, refl) (reg_printable d) (reg_printable m)
op_is_text op.Muls d m = two (codes "muls") (reg_text d) (reg_text m) (omega arith, refl) (reg_printable d) (reg_printable m)
op_is_text op.Bics d m = two (codes "bics") (reg_text d) (reg_text m) (omega arith, refl) (reg_printable d) (reg_printable m)
op_is_text op.Mvns d m = two (codes "mvns") (reg_text d) (reg_text m) (omega arith, refl) (reg_printable d) (reg_printable m)

shift_is_text : (s : Shift) (d m : Reg) (by : ℕ) → IsText (shift_text s d m by)
shift_is_text shift.Lsl d m by = choose (eqb by 0)
  where
    choose : (b : Bool) → IsText (cond b (line (codes "movs") (reg_text d ∷ reg_text m ∷ [])) (line (codes "lsls") (reg_text d ∷ reg_text m ∷ imm by ∷ [])))
    choose true = two (codes "movs") (reg_text d) (reg_text m) (omega arith, refl) (reg_printable d) (reg_printable m)
    choose false = three (codes "lsls") (reg_text d) (reg_text m) (imm by) (omega arith, refl) (reg_printable d) (reg_printable m) (imm_printable by)
shift_is_text shift.Lsr d m by = three (codes "lsrs") (reg_text d) (reg_text m) (imm by) (omega arith, refl) (reg_printable d) (reg_printable m) (imm_printable by)
shift_is_text shift.Asr d m by = three (codes "asrs") (reg_text d) (reg_text m) (imm by) (omega arith, refl) (reg_printable d) (reg_printable m) (imm_printable by)

hint_is_text : (h : ℕ) → IsText (hint_text h)
hint_is_text h = choose (eqb h 0) (eqb h 1) (eqb h 2) (eqb h 3) (eqb h 4)
  where
    choose : (a b c d e : Bool) → IsText (cond a (codes "nop") (cond b (codes "yield") (cond c (codes "wfe") (cond d (codes "wfi") (cond e (codes "sev") (line (codes "hint") (imm h ∷ [])))))))
    choose true b c d e = (omega arith, refl)
    choose false true c d e = (omega arith, refl)
    choose false false true d e = (omega arith, refl)
    choose false false false true e = (omega arith, refl)
    choose false false false false true = (omega arith, refl)
    choose false false false false false = one (codes "hint") (imm h) (omega arith, refl) (imm_printable h)

base_printable : (b : Bool) (n : Reg) → Printable (cond b (reg_text n) (raised n))
base_printable true n = reg_printable n
base_printable false n = raised_printable n

pub insn_is_text : (i : Insn) (at : ℕ) → IsText (insn_text i at)
unfolding insn_text
insn_is_text (ShiftImm s d m by) at = shift_is_text s d m by
insn_is_text (AddsReg d n m) at = three (codes "adds") (reg_text d) (reg_text n) (reg_text m) (omega arith, refl) (reg_printable d) (reg_printable n) (reg_printable m)
insn_is_text (SubsReg d n m) at = three (codes "subs") (reg_text d) (reg_text n) (reg_text m) (omega arith, refl) (reg_printable d) (reg_printable n) (reg_printable m)
insn_is_text (AddsImm3 d n i) at = three (codes "adds") (reg_text d) (reg_text n) (imm i) (omega arith, refl) (reg_printable d) (reg_printable n) (imm_printable i)
insn_is_text (SubsImm3 d n i) at = three (codes "subs") (reg_text d) (reg_text n) (imm i) (omega arith, refl) (reg_printable d) (reg_printable n) (imm_printable i)
insn_is_text (MovsImm d i) at = two (codes "movs") (reg_text d) (imm i) (omega arith, refl) (reg_printable d) (imm_printable i)
insn_is_text (CmpImm n i) at = two (codes "cmp") (reg_text n) (imm i) (omega arith, refl) (reg_printable n) (imm_printable i)
insn_is_text (AddsImm8 d i) at = two (codes "adds") (reg_text d) (imm i) (omega arith, refl) (reg_printable d) (imm_printable i)
insn_is_text (SubsImm8 d i) at = two (codes "subs") (reg_text d) (imm i) (omega arith, refl) (reg_printable d) (imm_printable i)
insn_is_text (Data o d m) at = op_is_text o d m
insn_is_text (AddHigh d m) at = two (codes "add") (reg_text d) (reg_text m) (omega arith, refl) (reg_printable d) (reg_printable m)
insn_is_text (CmpHigh n m) at = two (codes "cmp") (reg_text n) (reg_text m) (omega arith, refl) (reg_printable n) (reg_printable m)
insn_is_text (MovHigh d m) at = two (codes "mov") (reg_text d) (reg_text m) (omega arith, refl) (reg_printable d) (reg_printable m)
insn_is_text (Bx m) at = one (codes "bx") (reg_text m) (omega arith, refl) (reg_printable m)
insn_is_text (Blx m) at = one (codes "blx") (reg_text m) (omega arith, refl) (reg_printable m)
insn_is_text (LdrLiteral t i) at = two (codes "ldr") (reg_text t) (place _) (omega arith, refl) (reg_printable t) (place_printable _)
insn_is_text (StoreReg s t n m) at = two (store_name s) (reg_text t) (at_sum (reg_text n) (reg_text m)) (store_is_text s) (reg_printable t) (sum_printable (reg_text n) (reg_text m) (reg_printable n) (reg_printable m))
insn_is_text (LoadReg k t n m) at = two (load_name k) (reg_text t) (at_sum (reg_text n) (reg_text m)) (load_is_text k) (reg_printable t) (sum_printable (reg_text n) (reg_text m) (reg_printable n) (reg_printable m))
insn_is_text (StoreImm s t n i) at = two (store_name s) (reg_text t) (at_sum (reg_text n) (imm i)) (store_is_text s) (reg_printable t) (sum_printable (reg_text n) (imm i) (reg_printable n) (imm_printable i))
insn_is_text (LoadImm s t n i) at = two (load_name (load.Whole s)) (reg_text t) (at_sum (reg_text n) (imm i)) (load_is_text (load.Whole s)) (reg_printable t) (sum_printable (reg_text n) (imm i) (reg_printable n) (imm_printable i))
insn_is_text (StoreSp t i) at = two (codes "str") (reg_text t) (at_sum (codes "sp") (imm i)) (omega arith, refl) (reg_printable t) (sum_printable (codes "sp") (imm i) refl (imm_printable i))
insn_is_text (LoadSp t i) at = two (codes "ldr") (reg_text t) (at_sum (codes "sp") (imm i)) (omega arith, refl) (reg_printable t) (sum_printable (codes "sp") (imm i) refl (imm_printable i))
insn_is_text (Adr d i) at = two (codes "adr") (reg_text d) (place _) (omega arith, refl) (reg_printable d) (place_printable _)
insn_is_text (AddSp d i) at = three (codes "add") (reg_text d) (codes "sp") (imm i) (omega arith, refl) (reg_printable d) refl (imm_printable i)
insn_is_text (RaiseSp i) at = two (codes "add") (codes "sp") (imm i) (omega arith, refl) refl (imm_printable i)
insn_is_text (LowerSp i) at = two (codes "sub") (codes "sp") (imm i) (omega arith, refl) refl (imm_printable i)
insn_is_text (Change b d m) at = two (change_name b) (reg_text d) (reg_text m) (change_is_text b) (reg_printable d) (reg_printable m)
insn_is_text (Push list lr) at = one (codes "push") (braces (low_registers list ++ and_also lr 14)) (omega arith, refl) (braces_printable (low_registers list ++ and_also lr 14))
insn_is_text (Pop list pc) at = one (codes "pop") (braces (low_registers list ++ and_also pc 15)) (omega arith, refl) (braces_printable (low_registers list ++ and_also pc 15))
insn_is_text Cpsie at = one (codes "cpsie") (codes "i") (omega arith, refl) refl
insn_is_text Cpsid at = one (codes "cpsid") (codes "i") (omega arith, refl) refl
insn_is_text (Bkpt i) at = one (codes "bkpt") (imm i) (omega arith, refl) (imm_printable i)
insn_is_text (Hint h) at = hint_is_text h
insn_is_text (Stm n list) at = two (codes "stm") (raised n) (braces (low_registers list)) (omega arith, refl) (raised_printable n) (braces_printable (low_registers list))
insn_is_text (Ldm n list) at = two (codes "ldm") (cond (is_listed list n.number) (reg_text n) (raised n)) (braces (low_registers list)) (omega arith, refl) (base_printable (is_listed list n.number) n) (braces_printable (low_registers list))
insn_is_text (BranchIf c offset) at = one (branch_name c) (place _) (branch_is_text c) (place_printable _)
insn_is_text (Svc i) at = one (codes "svc") (imm i) (omega arith, refl) (imm_printable i)
insn_is_text (Branch offset) at = one (codes "b") (place _) (omega arith, refl) (place_printable _)
insn_is_text (Bl offset) at = one (codes "bl") (place _) (omega arith, refl) (place_printable _)
insn_is_text (Fence b i) at = one (barrier_name b) (imm i) (barrier_is_text b) (imm_printable i)
insn_is_text (Mrs d) at = two (codes "mrs") (reg_text d) (codes "apsr") (omega arith, refl) (reg_printable d) refl
insn_is_text (Msr n) at = two (codes "msr") (codes "apsr") (reg_text n) (omega arith, refl) refl (reg_printable n)

pub decoded_is_text : (at : ℕ) (d : Decoded) → IsInsn d → IsText (decoded_text at d)
decoded_is_text at (decoded.Narrow i) h = insn_is_text i at
decoded_is_text at (decoded.Wide i) h = insn_is_text i at
decoded_is_text at decoded.Illegal h = absurd h
decoded_is_text at decoded.NeedsSecond h = absurd h

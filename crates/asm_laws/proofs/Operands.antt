-- The operands of an instruction's text are read as these operands.
use Rattle.std.proofs.Common.{◌≡◌, ℕ, ◌≤◌, ◌+◌, length, length-append, arith, ◌<◌, List, [], ◌∷◌, map, refl, ap, ◌∙◌, true, false, Some, codes, decimal}
use Rattle.std.proofs.lemmas.Bool.{not-true, leb-true}
use Rattle.std.specs.List.{list_all}
use Rattle.thumb_insn.specs.Fields.{reg}
use Rattle.thumb_insn.specs.declared.Reg.{Reg}
use Rattle.thumb_insn.specs.Text.{register_name, reg_text, imm, place, joined, at_sum, braces, raised}
use Rattle.thumb_asm.specs.Chars.{is_nil, register, strip_end, strip, starts_by, is_blank, unless_last, register_names, entry_at}
use Rattle.thumb_asm.specs.Operands.{Operand, Register, Raised, Immediate, Expression, MemoryRegister, MemoryImmediate, Registers, operand, memory, offset, closed_by, stripped_by, ranges, register_list, ◌>>=◌}
use Rattle.thumb_asm.proofs.Bytes.{is_solid, is_visible, closed_framed, framed, front_visible}
use Rattle.thumb_asm.proofs.Lines.{joined_more, Reads, solid_piece, bracket_piece, brace_piece}
use Rattle.asm_laws.proofs.Registers.{named}
use Rattle.asm_laws.proofs.Numbers.{unquoted_is, decimal_is, target_solid, target_alone, digits_of, all_hex, place_is, target}
use Rattle.asm_laws.proofs.Splits.{Solid, AllSolid, stripped, joined_begins, joined_inner}

solid_reads : (a : List ℕ) (o : Operand) → Solid a → length a ≤ 60 → operand a ≡ Some o → Reads a o
solid_reads a o h l e = record { piece = solid_piece a h.some h.solid l; is = e }

pub reg_solid : (k : ℕ) → k < 16 → Solid (register_name k)
reg_solid k h = let e = named k h in record { some = e.some; solid = e.solid }

reg_short : (k : ℕ) → k < 16 → length (register_name k) ≤ 4
reg_short k h = leb-true _ _ (named k h).short

pub reads_reg : (r : Reg) → r.number < 16 → Reads (reg_text r) (Register r)
reads_reg r h = solid_reads (reg_text r) (Register r) (reg_solid r.number h) (let l = reg_short r.number h in omega arith) (named r.number h).alone

pub reads_raised : (r : Reg) → r.number < 16 → Reads (raised r) (Raised r)
reads_raised r h = let e = named r.number h in solid_reads (raised r) (Raised r) (record { some = e.some_raised; solid = e.solid_raised }) (leb-true _ _ e.short_raised) e.raised

imm_solid : (i : ℕ) → i < 1024 → Solid (imm i)
imm_solid i h = record { some = refl; solid = (decimal_is i h).solid }

imm_operand : (t : List ℕ) → list_all is_solid t ≡ true → operand (35 ∷ t) ≡ Some (Immediate t)
unfolding operand
imm_operand t h = unquoted_is t (Immediate t) h

pub reads_imm : (i : ℕ) → i < 1024 → Reads (imm i) (Immediate (decimal i))
reads_imm i h = solid_reads (imm i) (Immediate (decimal i)) (imm_solid i h) (let l = (decimal_is i h).short in omega arith) (imm_operand (decimal i) (decimal_is i h).solid)

pub reads_place : (n : ℕ) → Reads (place n) (Expression (place n))
reads_place n =
    let e : Reads (target (digits_of n)) (Expression (target (digits_of n))) = solid_reads _ _ (target_solid (digits_of n) (all_hex n)) (omega arith) (target_alone (digits_of n) (all_hex n)) in
    rw (place_is n) e

pub reads_apsr : Reads (codes "apsr") (Expression (codes "apsr"))
unfolding operand register register_names entry_at closed_by
reads_apsr = solid_reads (codes "apsr") (Expression (codes "apsr")) (record { some = refl; solid = refl }) (omega arith) refl

pub reads_interrupts : Reads (codes "i") (Expression (codes "i"))
unfolding operand register register_names entry_at closed_by
reads_interrupts = solid_reads (codes "i") (Expression (codes "i")) (record { some = refl; solid = refl }) (omega arith) refl

-- Sums in brackets.

bracket_operand : (t : List ℕ) → operand (framed 91 t 93) ≡ memory (stripped_by 44 t)
unfolding operand
bracket_operand t = rw (closed_framed 93 t refl) refl

pair : (x y : List ℕ) → Solid x → Solid y → AllSolid (x ∷ y ∷ [])
pair x y h k = (h, (k, tt))

sum_short : (x y : List ℕ) → length x ≤ 20 → length y ≤ 20 → length (joined (x ∷ y ∷ [])) ≤ 58
sum_short x y h k =
    let g : length (joined (x ∷ y ∷ [])) ≡ length x + length (44 ∷ 32 ∷ y) = ap length (joined_more x y []) ∙ length-append x (44 ∷ 32 ∷ y) in
    omega arith

sum_reads : (x y : List ℕ) (o : Operand) → Solid x → Solid y → length x ≤ 20 → length y ≤ 20 → memory (x ∷ y ∷ []) ≡ Some o → Reads (at_sum x y) o
sum_reads x y o h k u v e =
    let a = pair x y h k in
    record {
      piece = bracket_piece (joined (x ∷ y ∷ [])) (joined_inner x (y ∷ []) a) (sum_short x y u v);
      is = bracket_operand (joined (x ∷ y ∷ [])) ∙ ap memory (stripped x (y ∷ []) a) ∙ e;
    }

pub reads_sum : (n m : Reg) → n.number < 16 → m.number < 16 → Reads (at_sum (reg_text n) (reg_text m)) (MemoryRegister n m)
reads_sum n m h k =
    let e = named n.number h in
    sum_reads (reg_text n) (reg_text m) (MemoryRegister n m) (reg_solid n.number h) (reg_solid m.number k) (let l = reg_short n.number h in omega arith) (let l = reg_short m.number k in omega arith) (ap (λ o. o >>= λ r. offset (reg r) (reg_text m)) e.is ∙ (named m.number k).added n)

imm_offset : (n : Reg) (t : List ℕ) → list_all is_solid t ≡ true → offset n (35 ∷ t) ≡ Some (MemoryImmediate n t)
imm_offset n t h = unquoted_is t (MemoryImmediate n t) h

pub reads_beyond : (n : Reg) (i : ℕ) → n.number < 16 → i < 1024 → Reads (at_sum (reg_text n) (imm i)) (MemoryImmediate n (decimal i))
reads_beyond n i h k =
    let e = named n.number h in
    sum_reads (reg_text n) (imm i) (MemoryImmediate n (decimal i)) (reg_solid n.number h) (imm_solid i k) (let l = reg_short n.number h in omega arith) (let l = (decimal_is i k).short in omega arith) (ap (λ o. o >>= λ r. offset (reg r) (imm i)) e.is ∙ imm_offset n (decimal i) (decimal_is i k).solid)

-- Lists in braces.

abbrev pub AllBelow : List ℕ → Type 0
AllBelow [] = Unit {0}
AllBelow (k ∷ ks) = (k < 16) × AllBelow ks

-- each register as a range
abbrev pub single : ℕ → ℕ × ℕ
single k = (k, k)

all_solid : (ks : List ℕ) → AllBelow ks → AllSolid (map register_name ks)
all_solid [] h = tt
all_solid (k ∷ ks) h = (reg_solid k h.0, all_solid ks h.1)

all_ranges : (ks : List ℕ) → AllBelow ks → ranges (map register_name ks) ≡ Some (map single ks)
unfolding ranges
all_ranges [] h = refl
all_ranges (k ∷ ks) h = let e = (named k h.0).listed in let f = all_ranges ks h.1 in rw (e, f) refl

visible_some : (c : ℕ) (t : List ℕ) → is_visible c ≡ true → is_nil (unless_last c t) ≡ false
visible_some c t h = rw (not-true (is_blank c) h) refl

begins_some : (t : List ℕ) → starts_by is_visible t ≡ true → is_nil (strip t) ≡ false
unfolding strip strip_end
begins_some [] h = cc
begins_some (c ∷ cs) h = ap (λ t. is_nil (strip_end t)) (front_visible (c ∷ cs) h) ∙ visible_some c (strip_end cs) h

brace_operand : (t : List ℕ) → operand (framed 123 t 125) ≡ (register_list t >>= λ rs. Some (Registers rs))
unfolding operand
brace_operand t = rw (closed_framed 125 t refl) refl

list_of : (t : List ℕ) → starts_by is_visible t ≡ true → register_list t ≡ ranges (stripped_by 44 t)
list_of t h = rw (begins_some t h) refl

pub reads_list : (k : ℕ) (ks : List ℕ) → AllBelow (k ∷ ks) → length (joined (map register_name (k ∷ ks))) ≤ 58 → Reads (braces (k ∷ ks)) (Registers (map single (k ∷ ks)))
reads_list k ks h l =
    let a = all_solid (k ∷ ks) h in
    let t : List ℕ = joined (map register_name (k ∷ ks)) in
    record {
      piece = brace_piece (joined (map register_name (k ∷ ks))) (joined_inner (register_name k) (map register_name ks) a) l;
      is = brace_operand (joined (map register_name (k ∷ ks))) ∙ ap (λ o. o >>= λ rs. Some (Registers rs)) (list_of (joined (map register_name (k ∷ ks))) (joined_begins (register_name k) (map register_name ks) a) ∙ ap ranges (stripped (register_name k) (map register_name ks) a) ∙ all_ranges (k ∷ ks) h);
    }

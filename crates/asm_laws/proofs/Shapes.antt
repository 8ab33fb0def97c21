-- Which instruction a shape is, and that it is accepted.
use Rattle.std.proofs.Common.{◌≡◌, ℕ, length, not, ◌&&◌, ◌+◌, ◌*◌, ◌/◌, ◌<◌, ◌≤◌, List, ◌∷◌, refl, arith, Bool, true, false, nat_le, nat_lt, ◌||◌, Some, None, Ok}
use Rattle.std.specs.Prelude.{ℤ, pos, negsuc, ◌-ℤ◌}
use Rattle.std.proofs.lemmas.Bool.{not-true, leb-true, and_parts}
use Rattle.std.proofs.lemmas.Bool.Decides.{nat_tests}
use Rattle.std.specs.List.{list_all}
use Rattle.thumb_insn.specs.declared.Reg.{Reg}
use Rattle.thumb_insn.specs.declared.Insn.{Insn}
use Rattle.thumb_insn.specs.Text.{insn_text, line}
use Rattle.thumb_encode.specs.Codes.{fit_of, misfit, is_high}
use Rattle.thumb_asm.specs.Chars.{is_nil, is_allowed}
use Rattle.thumb_asm.specs.Operands.{Operand, ◌>>=◌, expression}
use Rattle.thumb_asm.specs.Syntax.{Shape, Fixed, Filled, Within, Aimed, Near, mnemonic, shaped}
use Rattle.thumb_asm.specs.Sizes.{checked, has_bad_count, has_bad_register, has_bad_number, has_bad_list, is_register_fit}
use Rattle.thumb_asm.specs.Meaning.{Env, insn_at, value}
use Rattle.thumb_asm.proofs.Bytes.{is_solid, is_plain, all_by, allowed_of}
use Rattle.thumb_asm.proofs.Lines.{Reads, AllRead, Line, line_shape}
use Rattle.asm_laws.proofs.Numbers.{number}
use Rattle.asm_laws.specs.Reading.{IsRead}

-- What a fit tells.

pub fits : (r o a : Bool) → misfit r o a ≡ None → (r ≡ false) × (o ≡ false) × (a ≡ false)
fits true o a e = cc
fits false true a e = cc
fits false false true e = cc
fits false false false e = (refl, refl, refl)

pub reg_fits : (r o a p q : Bool) → misfit r o a ≡ None → is_register_fit (misfit r p q) ≡ false
reg_fits true o a p q e = cc
reg_fits false o a true q e = refl
reg_fits false o a false true e = refl
reg_fits false o a false false e = refl

pub three_false : (a b d : Bool) → (a || b || d) ≡ false → (a ≡ false) × (b ≡ false) × (d ≡ false)
three_false true b d e = cc
three_false false true d e = cc
three_false false false d e = (refl, refl, e)

pub low : (r : Reg) → is_high r ≡ false → r.number < 16
low r e = grind (arith, nat_tests)

pub not_above : (n i m : ℕ) → nat_lt n i ≡ false → n < m → i < m
not_above n i m e h = grind (arith, nat_tests)

-- Shapes.

pub fixed_ok : (i : Insn) → fit_of i ≡ None → checked (Some (Fixed i)) ≡ Ok (Some (Fixed i))
unfolding checked has_bad_count has_bad_register has_bad_number has_bad_list
fixed_ok i e = rw e refl

pub fixed_at : (env : Env) (at : ℕ) (i : Insn) → fit_of i ≡ None → insn_at env at (Fixed i) ≡ Ok i
unfolding insn_at
fixed_at env at i e = rw e refl

pub filled_ok : (t : List ℕ) (f : ℕ → Insn) (v : ℕ) → is_register_fit (fit_of (f 0)) ≡ false → expression t ≡ Some (number v) → checked (Some (Filled t f)) ≡ Ok (Some (Filled t f))
unfolding checked has_bad_count has_bad_register has_bad_number has_bad_list
filled_ok t f v e h = rw (e, h) refl

pub within_ok : (low top : ℕ) (t : List ℕ) (f : ℕ → Insn) (v : ℕ) → is_register_fit (fit_of (f 0)) ≡ false → expression t ≡ Some (number v) → checked (Some (Within low top t f)) ≡ Ok (Some (Within low top t f))
unfolding checked has_bad_count has_bad_register has_bad_number has_bad_list
within_ok low top t f v e h = rw (e, h) refl

pub near_ok : (t : List ℕ) (f : ℕ → Insn) (v : ℕ) → is_register_fit (fit_of (f 0)) ≡ false → expression t ≡ Some (number v) → checked (Some (Near t f)) ≡ Ok (Some (Near t f))
unfolding checked has_bad_count has_bad_register has_bad_number has_bad_list
near_ok t f v e h = rw (e, h) refl

pub aimed_ok : (t : List ℕ) (f : ℤ → Insn) (v : ℕ) → expression t ≡ Some (number v) → checked (Some (Aimed t f)) ≡ Ok (Some (Aimed t f))
unfolding checked has_bad_count has_bad_register has_bad_number has_bad_list
aimed_ok t f v h = rw h refl

-- the value of a number
pub valued : (env : Env) (t : List ℕ) (v : ℕ) → expression t ≡ Some (number v) → value env t ≡ Some (pos v)
unfolding value
valued env t v h = rw h refl

small : (v : ℕ) → v < 1024 → nat_lt v 4294967296 ≡ true
small v h = grind (arith, nat_tests)

pub filled_at : (env : Env) (at : ℕ) (t : List ℕ) (f : ℕ → Insn) (v : ℕ) → expression t ≡ Some (number v) → v < 1024 → fit_of (f v) ≡ None → insn_at env at (Filled t f) ≡ Ok (f v)
unfolding insn_at
filled_at env at t f v h b e = rw (valued env t v h, small v b, e) refl

pub within_at : (env : Env) (at low top : ℕ) (t : List ℕ) (f : ℕ → Insn) (v : ℕ) → expression t ≡ Some (number v) → low ≤ v → v ≤ top → fit_of (f v) ≡ None → insn_at env at (Within low top t f) ≡ Ok (f v)
unfolding insn_at
within_at env at low top t f v h a b e =
    let p : nat_le low v ≡ true = grind (arith, nat_tests) in
    let q : nat_le v top ≡ true = grind (arith, nat_tests) in
    rw (valued env t v h, p, q, e) refl

pub near_at : (env : Env) (at : ℕ) (t : List ℕ) (f : ℕ → Insn) (v i : ℕ) → expression t ≡ Some (number v) → pos v -ℤ pos ((at + 4) / 4 * 4) ≡ pos i → i < 1024 → fit_of (f i) ≡ None → insn_at env at (Near t f) ≡ Ok (f i)
unfolding insn_at
near_at env at t f v i h d b e = rw (valued env t v h, d, small i b, e) refl

-- a distance that an instruction holds
abbrev pub IsNear : ℤ → Type 0
IsNear (pos n) = n < 2147483648
IsNear (negsuc n) = n < 2147483648

near_aim : (n : ℕ) → n < 2147483648 → nat_lt n 2147483648 ≡ true
near_aim n h = grind (arith, nat_tests)

pub aimed_at : (env : Env) (at : ℕ) (t : List ℕ) (f : ℤ → Insn) (v : ℕ) (z : ℤ) → expression t ≡ Some (number v) → pos v -ℤ pos (at + 4) ≡ z → IsNear z → fit_of (f z) ≡ None → insn_at env at (Aimed t f) ≡ Ok (f z)
unfolding insn_at
aimed_at env at t f v (pos n) h d b e = rw (valued env t v h, d, near_aim n b, e) refl
aimed_at env at t f v (negsuc n) h d b e = rw (valued env t v h, d, near_aim n b, e) refl

-- a word of few letters
abbrev pub is_word : List ℕ → Bool
is_word name = not (is_nil name) && nat_le (length name) 9

-- an instruction's text is read as it, and is a line
pub record IsReadSo (i : Insn) (at : ℕ) : Type 0 where
  pub read : IsRead i at
  pub allowed : list_all is_allowed (insn_text i at) ≡ true
  pub short : length (insn_text i at) ≤ 255

read_so : (i : Insn) (at : ℕ) (text : List ℕ) (s : Shape) → insn_text i at ≡ text → Line text s → ((env : Env) → insn_at env at s ≡ Ok i) → IsReadSo i at
read_so i at text s t l g = record {
  read = rw t (l.label, (s, l.statement, g));
  allowed = rw t (all_by is_plain is_allowed allowed_of text l.plain);
  short = rw t (l.short);
}

-- a line of a word and operands is the instruction of its shape
pub say : (i : Insn) (at : ℕ) (name x : List ℕ) (xs : List (List ℕ)) (o : Operand) (os : List Operand) (s : Shape) → insn_text i at ≡ line name (x ∷ xs) → is_word name ≡ true → list_all is_solid name ≡ true → nat_le (length xs) 2 ≡ true → Reads x o → AllRead xs os → (mnemonic name >>= λ m. shaped m (o ∷ os)) ≡ Some s → checked (Some s) ≡ Ok (Some s) → ((env : Env) → insn_at env at s ≡ Ok i) → IsReadSo i at
say i at name x xs o os s t n h v r rs e f g =
    let w = and_parts (not (is_nil name)) (nat_le (length name) 9) n in
    read_so i at (line name (x ∷ xs)) s t (line_shape name x xs o os s (not-true _ w.0) h (leb-true _ _ w.1) (leb-true _ _ v) r rs e f) g

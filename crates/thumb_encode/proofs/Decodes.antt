-- What the decoder answers for a code, and that an instruction has only one code.
use Rattle.std.proofs.Common.{◌≡◌, ℕ, ◌+◌, ◌*◌, ◌/◌, ◌^◌, ◌<◌, ◌≤◌, Bool, true, false, nat_eq, Option, Some, None, arith, refl, if◌then◌else◌}
use Rattle.std.proofs.lemmas.Bool.{eqb-true}
use Rattle.std.proofs.lemmas.Bool.Decides.{nat_tests}
use Rattle.std.proofs.lemmas.Nat.Bits.{and_high}
use Rattle.thumb_insn.specs.Table.{rows, wide_of, narrow_of, is_wide, decoded_of, with_second, narrow_result, wide_result}
use Rattle.thumb_insn.specs.Range.{insn_of, IsCode}
use Rattle.thumb_insn.specs.declared.Decoded.TheVariants as decoded
use Rattle.thumb_insn.specs.declared.Insn.{Insn}
use Rattle.thumb_insn.specs.declared.Insn.TheVariants.{Bl, Fence, Mrs, Msr}
use Rattle.thumb_insn.specs.declared.Code.{Code}
use Rattle.thumb_insn.specs.declared.Code.TheVariants.{One, Two}
use Rattle.thumb_insn.proofs.Apart.{by_gap, not_eq}
use Rattle.thumb_encode.specs.Codes.{fit_of, code_of, DecodesTo, code_size, insn_size}
use Rattle.thumb_encode.proofs.Again.{code_again}
use Rattle.thumb_encode.proofs.Wide.{two_again}

-- no first halfword of a wide code is itself an instruction
prefix_none : (h : ℕ) → h < 65536 → is_wide h ≡ true → narrow_of h ≡ None
unfolding rows
prefix_none h f w =
    let n : 29 ≤ h / 2048 = grind (arith, nat_tests) in
    let m = and_high h 5 11 in
    elim (nat_eq (h / 2048) 29) as (λ b. nat_eq (h / 2048) 29 ≡ b → narrow_of h ≡ None) [
      | true ↦ λ e. let e = eqb-true _ _ e in by_gap 63488 59392 h refl (omega arith)
      | false ↦ λ e. let p = not_eq _ _ e in elim (nat_eq (h / 2048) 30) as (λ b. nat_eq (h / 2048) 30 ≡ b → narrow_of h ≡ None) [
        | true ↦ λ g. let g = eqb-true _ _ g in by_gap 63488 61440 h refl (omega arith)
        | false ↦ λ g. let q = not_eq _ _ g in by_gap 63488 63488 h refl (omega arith)
      ] refl
    ] refl

not_prefix : (h : ℕ) (i : Insn) → h < 65536 → narrow_of h ≡ Some i → is_wide h ≡ false
not_prefix h i f e = elim (is_wide h) as (λ b. is_wide h ≡ b → is_wide h ≡ false) [
  | true ↦ λ w. let n = prefix_none h f w in absurd cc
  | false ↦ λ w. w
] refl

prefix : (first : ℕ) → first / 2048 ≡ 30 → is_wide first ≡ true
prefix first e = grind (arith, nat_tests)

pub decodes : (i : Insn) (c : Code) → IsCode c → insn_of c ≡ Some i → DecodesTo i c
decodes i (One h) f e = λ second. let n = not_prefix h i f e in rw (n, e) refl
decodes i (Two first second) f e = let w = two_again first second i f.0 f.1 e in rw (prefix first w.2, e) refl

-- an instruction that the table pairs with a code fits, and that is its code
pub again : (i : Insn) (c : Code) → IsCode c → insn_of c ≡ Some i → (fit_of i ≡ None) × (code_of i ≡ c)
again i (One h) f e = code_again h i f e
again i (Two first second) f e = let w = two_again first second i f.0 f.1 e in (w.0, w.1)

-- An instruction that the decoder gives is in the table.

narrow_inner : (o : Option Insn) (i : Insn) → narrow_result o ≡ decoded.Narrow i → o ≡ Some i
narrow_inner (Some j) i e = cc
narrow_inner None i e = absurd cc

wide_inner : (o : Option Insn) (i : Insn) → wide_result o ≡ decoded.Wide i → o ≡ Some i
wide_inner (Some j) i e = cc
wide_inner None i e = absurd cc

wide_not_narrow : (o : Option Insn) (i : Insn) → wide_result o ≡ decoded.Narrow i → ⊥
wide_not_narrow (Some j) i e = cc
wide_not_narrow None i e = cc

narrow_not_wide : (o : Option Insn) (i : Insn) → narrow_result o ≡ decoded.Wide i → ⊥
narrow_not_wide (Some j) i e = cc
narrow_not_wide None i e = cc

second_not_narrow : (h : ℕ) (second : Option ℕ) (i : Insn) → with_second h second ≡ decoded.Narrow i → ⊥
second_not_narrow h (Some s) i e = wide_not_narrow (wide_of (h * 2 ^ 16 + s)) i e
second_not_narrow h None i e = cc

read_narrow : (b : Bool) (h : ℕ) (second : Option ℕ) (i : Insn) → (if b then with_second h second else narrow_result (narrow_of h)) ≡ decoded.Narrow i → narrow_of h ≡ Some i
read_narrow true h second i e = absurd (second_not_narrow h second i e)
read_narrow false h second i e = narrow_inner (narrow_of h) i e

read_wide : (b : Bool) (first second : ℕ) (i : Insn) → (if b then with_second first (Some second) else narrow_result (narrow_of first)) ≡ decoded.Wide i → wide_of (first * 2 ^ 16 + second) ≡ Some i
read_wide true first second i e = wide_inner (wide_of (first * 2 ^ 16 + second)) i e
read_wide false first second i e = absurd (narrow_not_wide (narrow_of first) i e)

pub narrow_again : (i : Insn) (h : ℕ) (second : Option ℕ) → h < 2 ^ 16 → decoded_of h second ≡ decoded.Narrow i → (fit_of i ≡ None) × (code_of i ≡ One h)
narrow_again i h second f e = again i (One h) f (read_narrow (is_wide h) h second i e)

pub wide_again : (i : Insn) (first second : ℕ) → first < 2 ^ 16 → second < 2 ^ 16 → decoded_of first (Some second) ≡ decoded.Wide i → (fit_of i ≡ None) × (code_of i ≡ Two first second)
wide_again i first second f s e = again i (Two first second) (f, s) (read_wide (is_wide first) first second i e)

pub sized : (i : Insn) → code_size (code_of i) ≡ insn_size i
sized (Bl offset) = refl
sized (Fence b i) = refl
sized (Mrs d) = refl
sized (Msr n) = refl
sized i = refl

-- The bytes of a line whose statement is an instruction.
use Rattle.std.proofs.Common.{◌≡◌, ℕ, ◌%◌, List, refl, subst, arith, true, nat_eq, Option, Some, None, Result, Ok}
use Rattle.std.proofs.lemmas.Bool.Decides.{nat_tests}
use Rattle.thumb_insn.specs.declared.Insn.{Insn}
use Rattle.thumb_asm.specs.declared.Cause.{Cause}
use Rattle.thumb_asm.specs.Syntax.{Shape, Fixed, Filled, Within, Aimed, Near, Misplaced, Listed, Block, Data, Text, Zeros, Padding}
use Rattle.thumb_asm.specs.Meaning.{Env, insn_at, Codes, Means, Spells}
use Rattle.thumb_asm.specs.Causes.{second_group, shape_cause, insn_cause}
use Rattle.asm_laws.specs.Reading.{IsRead, IsSpelled, IsAccepted}
use Rattle.asm_laws.proofs.Lengths.{inner}

-- a result that is this instruction, with what holds of it
held : (P : Insn → Type 0) (r : Result Insn Cause) (i : Insn) → r ≡ Ok i → (P i → (j : Insn) × (r ≡ Ok j) × P j) × (((j : Insn) × (r ≡ Ok j) × P j) → P i)
held P r i e = ((λ p. (i, e, p)), (λ q. subst P (inner r q.0 i q.1 e) q.2))

means_code : (env : Env) (at : ℕ) (own : List ℕ) (s : Shape) (i : Insn) → insn_at env at s ≡ Ok i → (Codes i own → Means env at s own) × (Means env at s own → Codes i own)
unfolding insn_at Means
means_code env at own (Fixed j) i e = held (λ k. Codes k own) (insn_at env at (Fixed j)) i e
means_code env at own (Filled t f) i e = held (λ k. Codes k own) (insn_at env at (Filled t f)) i e
means_code env at own (Within low top t f) i e = held (λ k. Codes k own) (insn_at env at (Within low top t f)) i e
means_code env at own (Aimed t f) i e = held (λ k. Codes k own) (insn_at env at (Aimed t f)) i e
means_code env at own (Near t f) i e = held (λ k. Codes k own) (insn_at env at (Near t f)) i e
means_code env at own Misplaced i e = cc
means_code env at own (Listed loads rs) i e = held (λ k. Codes k own) (insn_at env at (Listed loads rs)) i e
means_code env at own (Block n is_up loads rs) i e = held (λ k. Codes k own) (insn_at env at (Block n is_up loads rs)) i e
means_code env at own (Data k es) i e = cc
means_code env at own (Text t) i e = cc
means_code env at own (Zeros t) i e = cc
means_code env at own (Padding t) i e = cc

even : (at : ℕ) → at % 2 ≡ 0 → nat_eq (at % 2) 0 ≡ true
even at h = grind (arith, nat_tests)

even_cause : (at : ℕ) (r : Result Insn Cause) (i : Insn) → r ≡ Ok i → at % 2 ≡ 0 → insn_cause at r ≡ None
even_cause at r i e h = rw (e, even at h) refl

no_cause : (env : Env) (at : ℕ) (s : Shape) (i : Insn) → insn_at env at s ≡ Ok i → at % 2 ≡ 0 → shape_cause env at s ≡ None
unfolding insn_at shape_cause
no_cause env at (Fixed j) i e h = even_cause at (insn_at env at (Fixed j)) i e h
no_cause env at (Filled t f) i e h = even_cause at (insn_at env at (Filled t f)) i e h
no_cause env at (Within low top t f) i e h = even_cause at (insn_at env at (Within low top t f)) i e h
no_cause env at (Aimed t f) i e h = even_cause at (insn_at env at (Aimed t f)) i e h
no_cause env at (Near t f) i e h = even_cause at (insn_at env at (Near t f)) i e h
no_cause env at Misplaced i e h = cc
no_cause env at (Listed loads rs) i e h = even_cause at (insn_at env at (Listed loads rs)) i e h
no_cause env at (Block n is_up loads rs) i e h = even_cause at (insn_at env at (Block n is_up loads rs)) i e h
no_cause env at (Data k es) i e h = cc
no_cause env at (Text t) i e h = cc
no_cause env at (Zeros t) i e h = cc
no_cause env at (Padding t) i e h = cc

spells_code : (env : Env) (at : ℕ) (own : List ℕ) (r : Result (Option Shape) Cause) (s : Shape) (i : Insn) → r ≡ Ok (Some s) → insn_at env at s ≡ Ok i → (Codes i own → Spells env at r own) × (Spells env at r own → Codes i own)
spells_code env at own r s i e f = rw e (means_code env at own s i f)

accepts : (env : Env) (at : ℕ) (r : Result (Option Shape) Cause) (s : Shape) (i : Insn) → r ≡ Ok (Some s) → insn_at env at s ≡ Ok i → at % 2 ≡ 0 → second_group env at r ≡ None
accepts env at r s i e f h = rw e (no_cause env at s i f h)

pub spelled : (i : Insn) (at : ℕ) → IsRead i at → IsSpelled i at
spelled i at p env own = spells_code env at own _ p.1.0 i p.1.1 (p.1.2 env)

pub accepted : (i : Insn) (at : ℕ) → IsRead i at → IsAccepted i at
accepted i at p env h = accepts env at _ p.1.0 i p.1.1 (p.1.2 env) h

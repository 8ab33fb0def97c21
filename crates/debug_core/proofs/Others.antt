-- Lists of different addresses.
use Rattle.std.proofs.Common.{◌≡◌, ◌∙◌, ℕ, suc, ◌≤◌, ◌<◌, ◌||◌, not, Bool, true, false, cond, eqb, List, [], ◌∷◌, length, refl, ap, arith}
use Rattle.std.proofs.lemmas.Bool.{lt-ltb, le-ltb, or_parts}
use Rattle.board_core.specs.fast.Breakpoints.{stands}
use Rattle.debug_core.specs.Session.{is_full, others}

-- where it is none of them all are others
pub all_others : (bs : List ℕ) (at : ℕ) → stands bs at ≡ false → others bs at ≡ bs
all_others [] at e = refl
all_others (b ∷ bs) at e =
    let p = or_parts (eqb b at) (stands bs at) e in
    ap (λ (t : Bool). cond (not t) (b ∷ others bs at) (others bs at)) p.0 ∙ ap (λ (rest : List ℕ). b ∷ rest) (all_others bs at p.1)

no_more : (bs : List ℕ) (at : ℕ) → length (others bs at) ≤ length bs
no_more [] at = omega arith
no_more (b ∷ bs) at = by (eqb b at) (no_more bs at)
  where
    by : (t : Bool) → length (others bs at) ≤ length bs → length (cond (not t) (b ∷ others bs at) (others bs at)) ≤ suc (length bs)
    by true le = omega arith
    by false le = omega arith

-- where it is one of them there are fewer others
fewer : (bs : List ℕ) (at : ℕ) → stands bs at ≡ true → length (others bs at) < length bs
fewer [] at e = absurd (cc)
fewer (b ∷ bs) at e = by (eqb b at) e (no_more bs at) (fewer bs at)
  where
    by : (t : Bool) → (t || stands bs at) ≡ true → length (others bs at) ≤ length bs → (stands bs at ≡ true → length (others bs at) < length bs) → length (cond (not t) (b ∷ others bs at) (others bs at)) < suc (length bs)
    by true e le less = omega arith
    by false e le less = let l = less e in omega arith

-- ---- whether there is room

pub set_again : (bs : List ℕ) (at : ℕ) → length bs ≤ 16 → stands bs at ≡ true → is_full bs at ≡ false
set_again bs at few e = let less = fewer bs at e in ap not (lt-ltb (length (others bs at)) 16 (omega arith))

pub has_room : (bs : List ℕ) (at : ℕ) → length bs < 16 → stands bs at ≡ false → is_full bs at ≡ false
has_room bs at few e = let same = ap length (all_others bs at e) in ap not (lt-ltb (length (others bs at)) 16 (omega arith))

pub has_none : (bs : List ℕ) (at : ℕ) → 16 ≤ length bs → stands bs at ≡ false → is_full bs at ≡ true
has_none bs at many e = let same = ap length (all_others bs at e) in ap not (le-ltb (length (others bs at)) 16 (omega arith))

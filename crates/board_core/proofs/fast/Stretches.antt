-- Where a stretch holds no breakpoint, and a turn at none.
use Rattle.std.proofs.Common.{◌≡◌, ◌≢◌, ◌⊎◌, inl, inr, ◌+◌, ◌-◌, ◌≤◌, ◌<◌, ◌||◌, ℕ, zero, suc, Bool, true, false, List, [], ◌∷◌, length, None, get_or, eqb, refl, subst, arith}
use Rattle.std.specs.Prelude.{Contains}
use Rattle.std.proofs.lemmas.Bool.{eqb-true}
use Rattle.board_model.specs.declared.outcomes.Turned.{Turned}
use Rattle.board_model.specs.declared.outcomes.Turned.TheVariants.{Idle, Ran}
use Rattle.board_core.specs.fast.Breakpoints.{stands, is_hit, hit_of, IsStretch}

-- an address that is none of them
not_standing : (xs : List ℕ) (at : ℕ) → ((k : ℕ) → k < length xs → get_or xs k 0 ≢ at) → stands xs at ≡ false
not_standing [] at h = refl
not_standing (x ∷ xs) at h = by (eqb x at) refl (not_standing xs at (λ k lt e. h (suc k) (omega (arith, lt)) e))
  where
    by : (b : Bool) → eqb x at ≡ b → stands xs at ≡ false → (b || stands xs at) ≡ false
    by true e rest = absurd (h zero (omega arith) (eqb-true x at e))
    by false e rest = rest

-- a turn that is at none hits none
pub no_hit : (breakpoints : List ℕ) (t : Turned) → is_hit breakpoints t ≡ false → None ≡ hit_of breakpoints t
no_hit breakpoints Idle e = refl
no_hit breakpoints (Ran task at) e = rw e refl

-- a stretch by its places in the region
pub stretched : (breakpoints : List ℕ) (base size pc here from to : ℕ) → base ≤ pc → here ≡ pc - base → from ≤ here → here ≤ to → to ≤ size →
    ((k : ℕ) → k < length breakpoints → base + from ≤ get_or breakpoints k 0 → base + to ≤ get_or breakpoints k 0) →
    (from ≡ 0) ⊎ Contains breakpoints (base + from - 1) → (to ≡ size) ⊎ Contains breakpoints (base + to) → IsStretch breakpoints base size pc (base + from) (to - from)
stretched breakpoints base size pc here from to above is low high inside free before behind =
    record {
      inside = (omega arith, omega (arith, low, high, inside));
      here = (omega (arith, above, is, low), omega (arith, above, is, low, high));
      free = λ at past short. not_standing breakpoints at (λ k lt e. let far = free k lt (omega (arith, past, e)) in omega (arith, far, e, short, low, high));
      before = elim before [
        | inl e ↦ inl (omega (arith, e))
        | inr x ↦ inr x
      ];
      behind = elim behind [
        | inl e ↦ inl (omega (arith, e, low, high))
        | inr x ↦ let to_is : base + to ≡ base + from + (to - from) = omega (arith, low, high) in inr (subst (λ (n : ℕ). Contains breakpoints n) to_is x)
      ];
    }

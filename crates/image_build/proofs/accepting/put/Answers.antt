use Rattle.std.proofs.Common.{◌≡◌, ◌∙◌, ◌+◌, ◌≤◌, ◌<◌, ◌⊎◌, ℕ, List, arith, get_or, inl, inr, length, refl, slice_set}
use Rattle.std.proofs.lemmas.Bool.{cases_lt}
use Rattle.std.proofs.lemmas.Grind.{get_or-set_at}
use Rattle.std.proofs.lemmas.List.{get_or-set_other}
use Rattle.image_build.proofs.accepting.put.Goals as goal

stands_more : (flash code : List ℕ) (at k v : ℕ) → at + k < length flash → v ≡ get_or code k 0
    → ((j : ℕ) → j < k → get_or flash (at + j) 0 ≡ get_or code j 0)
    → (j : ℕ) → j < k + 1 → get_or (slice_set flash (at + k) v) (at + j) 0 ≡ get_or code j 0
stands_more flash code at k v inside is before j lt = elim (cases_lt j k) [
  | inl earlier ↦ get_or-set_other flash (at + k) (at + j) v 0 (λ same. absurd (omega (arith, earlier, same))) ∙ before j earlier
  | inr later ↦ let here : j ≡ k = omega (arith, later, lt) in
      get_or-set_at flash (at + k) (at + j) v 0 (omega (arith, here)) inside ∙ is ∙ (rw here refl)
]

kept_other : (flash old code : List ℕ) (at k v : ℕ) → k < length code
    → ((j : ℕ) → (j < at) ⊎ (at + length code ≤ j) → get_or flash j 0 ≡ get_or old j 0)
    → (j : ℕ) → (j < at) ⊎ (at + length code ≤ j) → get_or (slice_set flash (at + k) v) j 0 ≡ get_or old j 0
kept_other flash old code at k v below before j side =
    get_or-set_other flash (at + k) j v 0 (λ same. apart same side) ∙ before j side
  where
    apart : j ≡ at + k → (j < at) ⊎ (at + length code ≤ j) → ⊥
    apart same (inl low) = absurd (omega (arith, same, low))
    apart same (inr high) = absurd (omega (arith, same, high, below))

pub loop-k-preserved : goal.loop-k-preserved
loop-k-preserved c = record {
  stands = stands_more _ _ _ _ _ (omega (arith, c.requires, c.loop-k-test.true)) refl c.loop-k.invariant.stands;
  kept = kept_other _ _ _ _ _ _ c.loop-k-test.true c.loop-k.invariant.kept;
}

-- The last checkpoint at or before a turn.
use Rattle.std.proofs.Common.{◌≡◌, ◌∙◌, ℕ, zero, suc, ◌+◌, ◌-◌, ◌≤◌, ◌<◌, ◌&&◌, ◌⊎◌, inl, inr, Bool, true, false, cond, leb, List, length, get_or, Option, Some, None, refl, sym, ap, arith}
use Rattle.std.specs.List.{HoldsAt}
use Rattle.std.proofs.lemmas.Bool.{leb-true, leb-false}
use Rattle.std.proofs.lemmas.List.{get_or_default}
use Rattle.debug_core.specs.declared.replay.Checkpoint.{Checkpoint}
use Rattle.debug_core.specs.Times.{later_of}
use Rattle.debug_core.proofs.Bytes.{no_byte}

pub some_same : (n m : ℕ) → ◌≡◌ {A = Option ℕ} (Some n) (Some m) → n ≡ m
some_same n m e = cc

-- of turn `to` or before, and none of the first k that is so is later
pub record IsLatest (cs : List Checkpoint) (to k : ℕ) (best : ℕ × ℕ) : Type 0 where
  pub inside : best.0 < length cs
  pub is : HoldsAt (λ c. c.turn ≡ Some best.1) cs best.0
  pub early : best.1 ≤ to
  pub last : (j turn : ℕ) → j < k → HoldsAt (λ c. c.turn ≡ Some turn) cs j → turn ≤ to → turn ≤ best.1

-- with one more
module _ (cs : List Checkpoint) (to k : ℕ) (c : Checkpoint) (here : c ≡ get_or cs k c) (lt : k < length cs) where
  at_here : (o : Option ℕ) → c.turn ≡ o → (j turn : ℕ) → j < k + 1 → HoldsAt (λ c. c.turn ≡ Some turn) cs j → (j < k) ⊎ (o ≡ Some turn)
  at_here o e j turn below at = by (k - j) refl
    where
      by : (n : ℕ) → k - j ≡ n → (j < k) ⊎ (o ≡ Some turn)
      by (suc n) f = inl (omega arith)
      by zero f =
          let same : j ≡ k = omega arith in
          inr (sym e ∙ ap (λ (d : Checkpoint). d.turn) (here ∙ ap (λ i. get_or cs i c) (sym same)) ∙ at c)

  pub latest_more : (best : ℕ × ℕ) → IsLatest cs to k best → IsLatest cs to (k + 1) (later_of to best k c.turn)
  latest_more best h = by c.turn refl
    where
      stays : (o : Option ℕ) → c.turn ≡ o → ((turn : ℕ) → o ≡ Some turn → turn ≤ to → turn ≤ best.1) → IsLatest cs to (k + 1) best
      stays o e others = record {
        inside = h.inside;
        is = h.is;
        early = h.early;
        last = λ j turn below at le. elim (at_here o e j turn below at) [ inl before ↦ h.last j turn before at le | inr now ↦ others turn now le ];
      }

      takes : (t : ℕ) → c.turn ≡ Some t → best.1 ≤ t → t ≤ to → IsLatest cs to (k + 1) (k, t)
      takes t e later early = record {
        inside = lt;
        is = λ d. ap (λ (x : Checkpoint). x.turn) (get_or_same d) ∙ e;
        early = early;
        last = λ j turn below at le. elim (at_here (Some t) e j turn below at) [ inl before ↦ (let old = h.last j turn before at le in omega (arith, old, later)) | inr now ↦ (let same = some_same t turn now in omega (arith, same)) ];
      }
        where
          get_or_same : (d : Checkpoint) → get_or cs k d ≡ c
          get_or_same d = get_or_default cs k d c lt ∙ sym here

      by : (o : Option ℕ) → c.turn ≡ o → IsLatest cs to (k + 1) (later_of to best k o)
      by None e = stays None e (λ turn is. absurd (no_byte turn is))
      by (Some t) e = by_tests (leb best.1 t) (leb t to) refl refl
        where
          by_tests : (a b : Bool) → leb best.1 t ≡ a → leb t to ≡ b → IsLatest cs to (k + 1) (cond (a && b) (k, t) best)
          by_tests true true p q = takes t e (leb-true best.1 t p) (leb-true t to q)
          by_tests true false p q = let past = leb-false t to q in stays (Some t) e (λ turn is le. let same = some_same t turn is in absurd (omega (arith, same, past, le)))
          by_tests false b p q = let before = leb-false best.1 t p in stays (Some t) e (λ turn is le. let same = some_same t turn is in omega (arith, same, before))

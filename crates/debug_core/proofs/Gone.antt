-- Where a run past breakpoints gets to.
use Rattle.std.proofs.Common.{◌≡◌, ◌∙◌, ℕ, ◌+◌, ◌-◌, List, Some, None, sym, ap, subst}
use Rattle.std.specs.Prelude.{min}
use Rattle.board_model.specs.Script.{Scenario}
use Rattle.board_core.specs.Data.{Shows}
use Rattle.debug_core.specs.declared.answer.Answer.TheVariants.{Hit}
use Rattle.debug_core.specs.declared.replay.Replay.{Replay}
use Rattle.debug_core.specs.Answers.{gone_to, hit_at}
use Rattle.debug_core.specs.Hits.{CameTo, first_hit}
use Rattle.debug_core.specs.Runs.{forward, most_turns, state_at}
use Rattle.debug_core.specs.Session.{Session, gone, hit_from, hit_in}
use Rattle.debug_core.specs.Times.{IsAt}

module _ {X : Type 0} {H : X → Type 0} (shown : Shows X H) (x : Scenario) (s : Session) (n to : ℕ) (breakpoints : List ℕ) (limit : to ≡ min (s.cursor + n) most_turns) (same : breakpoints ≡ s.breakpoints) where
  same_hit : first_hit x breakpoints s.cursor to ≡ hit_from x s n
  same_hit = λ i. hit_in x (same i) s.cursor ((state_at x (limit i)).turn - s.cursor)

  -- nothing was hit
  pub none_from : (t : Replay X H) → CameTo shown x breakpoints s.cursor to t None → hit_from x s n ≡ None
  none_from t h = sym same_hit ∙ h.1

  pub at_end : (t : Replay X H) → CameTo shown x breakpoints s.cursor to t None → IsAt shown x t (forward x s.cursor n)
  at_end t h = subst (λ k. IsAt shown x t (state_at x k).turn) limit h.0

  pub at_gone : (t : Replay X H) → CameTo shown x breakpoints s.cursor to t None → IsAt shown x t (gone x s n (hit_from x s n))
  at_gone t h = subst (λ o. IsAt shown x t (gone x s n o)) (sym (none_from t h)) (at_end t h)

  -- the first that is hit
  pub some_from : (t : Replay X H) (hit : ℕ × ℕ) → (h : CameTo shown x breakpoints s.cursor to t (Some hit)) → hit_from x s n ≡ Some h.0
  some_from t hit h = sym same_hit ∙ h.2

  pub at_hit : (t : Replay X H) (hit : ℕ × ℕ) → CameTo shown x breakpoints s.cursor to t (Some hit) → IsAt shown x t (gone x s n (hit_from x s n))
  at_hit t hit h = subst (λ o. IsAt shown x t (gone x s n o)) (sym (some_from t hit h)) h.1

  pub told_hit : (t : Replay X H) (hit : ℕ × ℕ) (cursor : ℕ) → (h : CameTo shown x breakpoints s.cursor to t (Some hit)) → cursor ≡ h.0 + 1 → Hit cursor hit.0 hit.1 ≡ gone_to x s n (hit_from x s n)
  told_hit t hit cursor h is =
      ap (λ k. Hit k hit.0 hit.1) is
      ∙ ap (hit_at (h.0 + 1)) (sym h.3)
      ∙ ap (gone_to x s n) (sym (some_from t hit h))

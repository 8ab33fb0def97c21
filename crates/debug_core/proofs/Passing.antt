-- Turns one after the other, up to the first one that passes a test.
use Rattle.std.proofs.Common.{◌≡◌, ◌∙◌, ℕ, ◌+◌, ◌-◌, ◌≤◌, ◌<◌, inl, inr, Bool, true, false, is_some, Option, Some, None, sym, ap, subst, arith}
use Rattle.std.proofs.lemmas.Bool.{cases_lt}
use Rattle.std.specs.Prelude.{find}
use Rattle.std.specs.List.{range_with_len}
use Rattle.task_table.specs.model.State.{State}
use Rattle.board_model.specs.declared.outcomes.End.{End}
use Rattle.board_model.specs.Run.{ending}
use Rattle.board_model.specs.Script.{Scenario}
use Rattle.board_core.specs.Data.{Shows}
use Rattle.board_core.specs.Stands.{turns_of}
use Rattle.debug_core.specs.declared.replay.Replay.{Replay}
use Rattle.debug_core.specs.Runs.{state_at}
use Rattle.debug_core.specs.Times.{IsAt}
use Rattle.debug_core.proofs.Ahead.{ends_at, further}
use Rattle.debug_core.proofs.Standing.{turns_at}
use Rattle.region_check.proofs.FirstBad.{find_range_none, find_range_some}

module _ {X : Type 0} {H : X → Type 0} (shown : Shows X H) (x : Scenario) (p : ℕ → Bool) where
  -- some turns on from one: it holds of none before the last, and whether of that
  pub record Went (from : ℕ) (t : Replay X H) (holds : Bool) : Type 0 where
    pub last : ℕ
    pub later : from ≤ last
    pub at : IsAt shown x t (last + 1)
    pub none : (turn : ℕ) → from ≤ turn → turn < last → p turn ≡ false
    pub is : p last ≡ holds

  module _ (from to : ℕ) where
    -- it stands at a turn from the first one on, and of none before it holds
    pub record Passed (t : Replay X H) : Type 0 where
      pub at : IsAt shown x t (turns_of t.board)
      pub later : from ≤ turns_of t.board
      pub within : turns_of t.board ≤ to
      pub none : (turn : ℕ) → from ≤ turn → turn < turns_of t.board → p turn ≡ false

    pub passed_first : (t : Replay X H) → IsAt shown x t from → from ≤ to → Passed t
    passed_first t h le =
        let is = turns_at shown x t from h in
        record {
          at = subst (λ n. IsAt shown x t n) (sym is) h;
          later = omega arith;
          within = omega arith;
          none = λ turn a b. absurd (omega (arith, a, b));
        }

    none_before : (t t' : Replay X H) (holds : Bool) → Passed t → (w : Went (turns_of t.board) t' holds) → (turn : ℕ) → from ≤ turn → turn < w.last → p turn ≡ false
    none_before t t' holds h w turn a b = elim (cases_lt turn (turns_of t.board)) [ inl before ↦ h.none turn a before | inr after ↦ w.none turn after b ]

    -- more turns of none of which it holds
    pub passed_more : (t t' : Replay X H) → Passed t → Went (turns_of t.board) t' false → turns_of t'.board ≤ to → Passed t'
    passed_more t t' h w within =
        let is = turns_at shown x t' (w.last + 1) w.at in
        record {
          at = subst (λ n. IsAt shown x t' n) (sym is) w.at;
          later = omega (arith, h.later, w.later);
          within = within;
          none = λ turn a b. elim (cases_lt turn w.last) [
            | inl before ↦ none_before t t' false h w turn a before
            | inr after ↦ let last : w.last ≡ turn = omega (arith, after, b, is) in subst (λ n. p n ≡ false) last w.is
          ];
        }

    -- where the run ends it held of none
    pub none_passed : (t : Replay X H) (o : Option End) → Passed t → is_some o ≡ true → o ≡ ending x (to - turns_of t.board) (state_at x (turns_of t.board)) →
        IsAt shown x t (state_at x to).turn × (find p (range_with_len from ((state_at x to).turn - from)) ≡ None)
    none_passed t None h some is = absurd (cc)
    none_passed t (Some e) h some is =
        let c = turns_of t.board in
        let ended : state_at x to ≡ state_at x c = ends_at x h.at.start c to e h.at.reached h.within (sym is) in
        let last : (state_at x to).turn ≡ c = ap (λ (s : State). s.turn) ended ∙ h.at.reached in (
          subst (λ n. IsAt shown x t n) (sym last) h.at,
          find_range_none p from ((state_at x to).turn - from) (λ turn a b. h.none turn a (omega (arith, b, last, h.later))),
        )

    -- the first of which it holds
    pub first_passed : (t t' : Replay X H) → Passed t → (w : Went (turns_of t.board) t' true) → turns_of t'.board ≤ to → find p (range_with_len from ((state_at x to).turn - from)) ≡ Some w.last
    first_passed t t' h w within =
        let is = turns_at shown x t' (w.last + 1) w.at in
        let inside = further x h.at.start (w.last + 1) to w.at.reached (omega arith) in
        find_range_some p from ((state_at x to).turn - from) w.last (omega (arith, h.later, w.later)) (omega (arith, inside, h.later, w.later)) (none_before t t' true h w) w.is

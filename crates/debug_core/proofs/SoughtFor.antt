-- The result of a search forwards or back.
use Rattle.std.proofs.Common.{◌≡◌, ◌∙◌, ℕ, ◌+◌, ◌-◌, Bool, true, false, cond, Option, Some, None, sym, ap, subst}
use Rattle.std.specs.Prelude.{min}
use Rattle.std.specs.Option.{unwrap_or}
use Rattle.board_model.specs.Script.{Scenario}
use Rattle.board_core.specs.Data.{Shows}
use Rattle.debug_core.specs.declared.answer.Answer.{Answer}
use Rattle.debug_core.specs.declared.answer.Answer.TheVariants.{Absent}
use Rattle.debug_core.specs.declared.command.Sought.{Sought}
use Rattle.debug_core.specs.declared.replay.Replay.{Replay}
use Rattle.debug_core.specs.Answers.{at_turn, found_at, sought_for}
use Rattle.debug_core.specs.Runs.{forward, most_turns, state_at}
use Rattle.debug_core.specs.Searched.{can_be, first_found, found, last_found}
use Rattle.debug_core.specs.Searches.{CameFor, WentBackFor}
use Rattle.debug_core.specs.Session.{Session, ahead, behind, gone, gone_back, if_there}
use Rattle.debug_core.specs.Times.{IsAt}

module _ (x : Scenario) (s : Session) (what : Sought) where
  pub told_if_can : (turn : Option ℕ) (cursor : ℕ) → can_be what (state_at x s.cursor).memory ≡ true → found_at x what turn cursor ≡ sought_for x s what turn cursor
  told_if_can turn cursor can = sym (ap (λ (b : Bool). cond b (found_at x what turn cursor) Absent) can)

  pub told_if_not : (turn : Option ℕ) (cursor : ℕ) → can_be what (state_at x s.cursor).memory ≡ false → Absent ≡ sought_for x s what turn cursor
  told_if_not turn cursor cannot = sym (ap (λ (b : Bool). cond b (found_at x what turn cursor) Absent) cannot)

  -- what is found in a turn is what is told of it
  told_in : (turn cursor : ℕ) (answer : Answer) (o : Option ℕ) → o ≡ Some turn → found x what turn ≡ Some answer → answer ≡ found_at x what o cursor
  told_in turn cursor answer o is e = sym (ap (λ (a : Option Answer). unwrap_or a Absent) e) ∙ sym (ap (λ (p : Option ℕ). found_at x what p cursor) is)

module _ {X : Type 0} {H : X → Type 0} (shown : Shows X H) (x : Scenario) (s : Session) (what : Sought) where
  -- ---- whether there can be such a turn

  pub if_can : (t : Replay X H) (cursor : ℕ) → can_be what (state_at x s.cursor).memory ≡ true → IsAt shown x t cursor → IsAt shown x t (if_there x s what cursor)
  if_can t cursor can h = subst (λ (b : Bool). IsAt shown x t (cond b cursor s.cursor)) (sym can) h

  pub if_not : (t : Replay X H) (cursor : ℕ) → can_be what (state_at x s.cursor).memory ≡ false → IsAt shown x t s.cursor → IsAt shown x t (if_there x s what cursor)
  if_not t cursor cannot h = subst (λ (b : Bool). IsAt shown x t (cond b cursor s.cursor)) (sym cannot) h

  module _ (n : ℕ) where
    -- ---- forwards

    module _ (to : ℕ) (limit : to ≡ min (s.cursor + n) most_turns) where
      same_ahead : first_found x what s.cursor ((state_at x to).turn - s.cursor) ≡ ahead x s n what
      same_ahead = λ i. first_found x what s.cursor ((state_at x (limit i)).turn - s.cursor)

      -- nothing was found
      none_ahead : (t : Replay X H) → CameFor shown x what s.cursor to t None → ahead x s n what ≡ None
      none_ahead t h = sym same_ahead ∙ h.1

      pub at_end : (t : Replay X H) → CameFor shown x what s.cursor to t None → IsAt shown x t (forward x s.cursor n)
      at_end t h = subst (λ k. IsAt shown x t (state_at x k).turn) limit h.0

      pub at_none_ahead : (t : Replay X H) → CameFor shown x what s.cursor to t None → IsAt shown x t (gone x s n (ahead x s n what))
      at_none_ahead t h = subst (λ o. IsAt shown x t (gone x s n o)) (sym (none_ahead t h)) (at_end t h)

      pub told_none_ahead : (t : Replay X H) → CameFor shown x what s.cursor to t None → at_turn x (forward x s.cursor n) ≡ found_at x what (ahead x s n what) (forward x s.cursor n)
      told_none_ahead t h = sym (ap (λ (o : Option ℕ). found_at x what o (forward x s.cursor n)) (none_ahead t h))

      -- the first that was
      some_ahead : (t : Replay X H) (answer : Answer) → (h : CameFor shown x what s.cursor to t (Some answer)) → ahead x s n what ≡ Some h.0
      some_ahead t answer h = sym same_ahead ∙ h.2

      pub at_ahead : (t : Replay X H) (answer : Answer) → CameFor shown x what s.cursor to t (Some answer) → IsAt shown x t (gone x s n (ahead x s n what))
      at_ahead t answer h = subst (λ o. IsAt shown x t (gone x s n o)) (sym (some_ahead t answer h)) h.1

      pub told_ahead : (t : Replay X H) (answer : Answer) → CameFor shown x what s.cursor to t (Some answer) → answer ≡ found_at x what (ahead x s n what) (forward x s.cursor n)
      told_ahead t answer h = told_in x s what h.0 (forward x s.cursor n) answer (ahead x s n what) (some_ahead t answer h) h.3

    -- ---- back

    module _ (low : ℕ) (limit : low ≡ s.cursor - n) where
      same_behind : last_found x what low (s.cursor - low) ≡ behind x s n what
      same_behind = λ i. last_found x what (limit i) (s.cursor - limit i)

      none_behind : (t : Replay X H) → WentBackFor shown x what low s.cursor t None → behind x s n what ≡ None
      none_behind t h = sym same_behind ∙ h.1

      pub at_low : (t : Replay X H) → WentBackFor shown x what low s.cursor t None → IsAt shown x t (s.cursor - n)
      at_low t h = subst (λ k. IsAt shown x t k) limit h.0

      pub at_none_behind : (t : Replay X H) → WentBackFor shown x what low s.cursor t None → IsAt shown x t (gone_back s n (behind x s n what))
      at_none_behind t h = subst (λ o. IsAt shown x t (gone_back s n o)) (sym (none_behind t h)) (at_low t h)

      pub told_none_behind : (t : Replay X H) → WentBackFor shown x what low s.cursor t None → at_turn x (s.cursor - n) ≡ found_at x what (behind x s n what) (s.cursor - n)
      told_none_behind t h = sym (ap (λ (o : Option ℕ). found_at x what o (s.cursor - n)) (none_behind t h))

      some_behind : (t : Replay X H) (answer : Answer) → (h : WentBackFor shown x what low s.cursor t (Some answer)) → behind x s n what ≡ Some h.0
      some_behind t answer h = sym same_behind ∙ h.2

      pub at_behind : (t : Replay X H) (answer : Answer) → WentBackFor shown x what low s.cursor t (Some answer) → IsAt shown x t (gone_back s n (behind x s n what))
      at_behind t answer h = subst (λ o. IsAt shown x t (gone_back s n o)) (sym (some_behind t answer h)) h.1

      pub told_behind : (t : Replay X H) (answer : Answer) → WentBackFor shown x what low s.cursor t (Some answer) → answer ≡ found_at x what (behind x s n what) (s.cursor - n)
      told_behind t answer h = told_in x s what h.0 (s.cursor - n) answer (behind x s n what) (some_behind t answer h) h.3

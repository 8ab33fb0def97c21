-- What a turn ran, and the first turn that is a hit.
use Rattle.std.proofs.Common.{◌≡◌, ◌∙◌, ℕ, ◌+◌, ◌-◌, ◌≤◌, ◌<◌, Bool, true, false, cond, List, Option, Some, None, refl, sym, ap, arith}
use Rattle.std.proofs.lemmas.Option.{none-some}
use Rattle.board_model.specs.declared.outcomes.Level.TheVariants.{Calls}
use Rattle.board_model.specs.declared.outcomes.Turned.{Turned}
use Rattle.board_model.specs.declared.outcomes.Turned.TheVariants.{Idle, Ran}
use Rattle.board_model.specs.Run.{ending, state_after, turn_after}
use Rattle.board_model.specs.Script.{Scenario}
use Rattle.board_model.specs.Turn.{turned}
use Rattle.board_core.specs.fast.Breakpoints.{hit_of, is_hit, stands}
use Rattle.board_core.specs.Data.{Shows}
use Rattle.board_core.specs.Stands.{turns_of}
use Rattle.debug_core.specs.declared.replay.Replay.{Replay}
use Rattle.debug_core.specs.Hits.{CameTo, WentPast}
use Rattle.debug_core.specs.Runs.{state_at}
use Rattle.debug_core.specs.Times.{IsAt}
use Rattle.debug_core.proofs.Ahead.{turned_same}
use Rattle.debug_core.proofs.Passing.{Passed, Went, first_passed}
use Rattle.debug_core.proofs.Standing.{follows_after}

-- ---- what a turn ran

pub one_same : {A : Type 0} (a b : A) → ◌≡◌ {A = Option A} (Some a) (Some b) → a ≡ b
one_same a b e = cc

abbrev Hit : Type 0
Hit = Option (ℕ × ℕ)

missed : (breakpoints : List ℕ) (ran : Turned) → None ≡ hit_of breakpoints ran → is_hit breakpoints ran ≡ false
missed breakpoints Idle e = refl
missed breakpoints (Ran task at) e = by (stands breakpoints at) e
  where
    by : (b : Bool) → ◌≡◌ {A = Hit} None (cond b (Some (task, at)) None) → b ≡ false
    by true e = absurd (none-some (task, at) e)
    by false e = refl

ran_at : (breakpoints : List ℕ) (ran : Turned) (hit : ℕ × ℕ) → Some hit ≡ hit_of breakpoints ran → (ran ≡ Ran hit.0 hit.1) × (is_hit breakpoints ran ≡ true)
ran_at breakpoints Idle hit e = absurd (none-some hit (sym e))
ran_at breakpoints (Ran task at) hit e = by (stands breakpoints at) e
  where
    by : (b : Bool) → ◌≡◌ {A = Hit} (Some hit) (cond b (Some (task, at)) None) → (Ran task at ≡ Ran hit.0 hit.1) × (b ≡ true)
    by true e = (ap (λ (p : ℕ × ℕ). Ran p.0 p.1) (sym (one_same hit (task, at) e)), refl)
    by false e = absurd (none-some hit (sym e))

-- it ran a task at a breakpoint
abbrev pub ran_hit : Scenario → List ℕ → ℕ → Bool
ran_hit x breakpoints turn = is_hit breakpoints (turned x (state_at x turn))

module _ {X : Type 0} {H : X → Type 0} (shown : Shows X H) (x : Scenario) (breakpoints : List ℕ) where
  -- turns on end, of which none before the last is hit, and what of that is told
  pub went_past : (t t' : Replay X H) (turn n : ℕ) (hit : Option (ℕ × ℕ)) → (h : IsAt shown x t turn) → IsAt shown x t' (turn + n + 1) → ending x 1 h.state.0 ≡ None → ((k : ℕ) → k < n → ending x 1 (turn_after Calls x k h.state.0).state ≡ None) →
      ((k : ℕ) → k < n → is_hit breakpoints (turned x (state_after Calls x k h.state.0)) ≡ false) → hit ≡ hit_of breakpoints (turned x (state_after Calls x n h.state.0)) → WentPast shown x breakpoints turn t' hit
  went_past t t' turn n hit h at first on none is =
      record {
        last = turn + n;
        later = omega arith;
        at = at;
        none = λ k from before.
            let j = k - turn in
            let same : turn + j ≡ k = omega (arith, from) in
            let ran = ran_as (k - turn) (omega (arith, from, before)) in
            ap (is_hit breakpoints) (ap (λ m. turned x (state_at x m)) (sym same) ∙ sym ran) ∙ none (k - turn) (omega (arith, from, before));
        is = is ∙ ap (hit_of breakpoints) (ran_as n (omega arith));
      }
    where
      ran_as : (k : ℕ) → k ≤ n → turned x (state_after Calls x k h.state.0) ≡ turned x (state_at x (turn + k))
      ran_as k le = turned_same x (state_after Calls x k h.state.0) (state_at x (turn + k)) (follows_after shown x t turn n h first on k le).same

  -- the last was hit or not
  pub none_went : (from : ℕ) (t : Replay X H) → WentPast shown x breakpoints from t None → Went shown x (ran_hit x breakpoints) from t false
  none_went from t w = record { last = w.last; later = w.later; at = w.at; none = w.none; is = missed breakpoints (turned x (state_at x w.last)) w.is }

  module _ (from to : ℕ) where
    pub one_hit : (t t' : Replay X H) (hit : ℕ × ℕ) → Passed shown x (ran_hit x breakpoints) from to t → WentPast shown x breakpoints (turns_of t.board) t' (Some hit) → turns_of t'.board ≤ to → CameTo shown x breakpoints from to t' (Some hit)
    one_hit t t' hit h w within =
        let ran = ran_at breakpoints (turned x (state_at x w.last)) hit w.is in (
          w.last,
          w.at,
          first_passed shown x (ran_hit x breakpoints) from to t t' h (record { last = w.last; later = w.later; at = w.at; none = w.none; is = ran.1 }) within,
          ran.0,
        )

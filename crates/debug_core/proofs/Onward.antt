-- The run from its start: it goes on turn by turn before any turn that it reaches.
use Rattle.std.proofs.Common.{◌≡◌, ◌∙◌, ℕ, zero, suc, ◌+◌, ◌-◌, ◌<◌, Option, Some, None, refl, sym, ap, arith}
use Rattle.task_table.specs.model.State.{State}
use Rattle.task_table.specs.model.Sane.{Sane}
use Rattle.board_model.specs.declared.outcomes.End.{End}
use Rattle.board_model.specs.declared.outcomes.Level.TheVariants.{Calls}
use Rattle.board_model.specs.Run.{ending, state_after, turn_after}
use Rattle.board_model.specs.Script.{Scenario, start_of}
use Rattle.board_model.specs.Turn.{turn}
use Rattle.board_model.proofs.Endings.{before_bound}
use Rattle.debug_core.specs.Runs.{state_at}
use Rattle.debug_core.proofs.Ahead.{Follows, ends_at, reaches, same_memory, sane_at, turns_ahead}

-- with a turn left the bound does not count
pub bounded : (x : Scenario) (n : ℕ) (s : State) → 0 < n → ending x n s ≡ ending x 1 s
bounded x n s some = sym (before_bound x s n some) ∙ before_bound x s 1 (omega arith)

module _ (x : Scenario) (sane : Sane x.setup (start_of x)) where
  -- it does not end before a turn that it reaches
  pub goes_on : (n k : ℕ) → (state_at x n).turn ≡ n → k < n → ending x 1 (state_at x k) ≡ None
  goes_on n k there lt = by (ending x 1 (state_at x k)) refl
    where
      here : (state_at x k).turn ≡ k
      here = reaches x sane n k there (omega arith)

      by : (o : Option End) → ending x 1 (state_at x k) ≡ o → ending x 1 (state_at x k) ≡ None
      by None e = e
      by (Some end) e =
          let ended : state_at x n ≡ state_at x k = ends_at x sane k n end here (omega arith) (bounded x (n - k) (state_at x k) (omega arith) ∙ e) in
          let last = ap (λ (s : State). s.turn) ended in
          absurd (omega (arith, last, here, there))

  -- what a turn leaves in memory is what is there before the next
  pub memory_after : (n k : ℕ) → (state_at x n).turn ≡ n → k < n → (turn Calls x (state_at x k)).state.memory ≡ (state_at x (k + 1)).memory
  unfolding turn_after state_after
  memory_after n k there lt =
      let s = state_at x k in
      let on : (j : ℕ) → j < 1 → ending x 1 (state_after Calls x j s) ≡ None = λ j few. first j few in
      let follows : Follows x k s = record { sane = sane_at x sane k; same = refl; reached = reaches x sane n k there (omega arith) } in
      same_memory (state_after Calls x 1 s) (state_at x (k + 1)) (turns_ahead x sane 1 k s follows on).same
    where
      first : (j : ℕ) → j < 1 → ending x 1 (state_after Calls x j (state_at x k)) ≡ None
      first zero few = goes_on n k there lt
      first (suc j) few = absurd (omega arith)

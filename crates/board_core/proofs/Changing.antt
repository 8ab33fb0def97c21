-- What turns change of a byte.
use Rattle.std.proofs.Common.{◌≡◌, ◌∙◌, ◌<◌, ◌≤◌, ℕ, zero, suc, true, eqb, Option, Some, None, refl, sym, ap, arith}
use Rattle.std.proofs.lemmas.Bool.{eq-eqb}
use Rattle.mem_banks.specs.Memory.{byte_at}
use Rattle.task_table.specs.model.State.{State, Turn}
use Rattle.board_model.specs.declared.outcomes.Level.TheVariants.{Calls}
use Rattle.board_model.specs.Script.{Scenario}
use Rattle.board_model.specs.Turn.{turn, turned}
use Rattle.board_model.specs.Run.{turn_after, state_after}
use Rattle.board_model.proofs.Further.{last_turn}
use Rattle.board_core.specs.Changes.{change_by, change_in, runner_of}

-- a byte that is what it was is no change
no_change : (task before after : Option ℕ) → before ≡ after → None ≡ change_by task before after
no_change task None after same = refl
no_change task (Some byte) after same = let e : eqb byte byte ≡ true = eq-eqb byte byte refl in rw (← same, e) refl

-- what a turn changes, by who ran in it and what the byte was and is
pub change_told : (x : Scenario) (at : ℕ) (s : State) (task before after : Option ℕ) → task ≡ runner_of (turned x s) → before ≡ byte_at s.memory at → after ≡ byte_at (turn Calls x s).state.memory at → change_by task before after ≡ change_in x at s
change_told x at s task before after who old new = λ i. change_by (who i) (old i) (new i)

-- where each of some turns leaves a byte as it was, none of them changes it
module _ (x : Scenario) (s : State) (n at : ℕ) (untouched : (k : ℕ) → k < n → byte_at (turn_after Calls x k s).state.memory at ≡ byte_at s.memory at) where
  still : (k : ℕ) → k ≤ n → byte_at (state_after Calls x k s).memory at ≡ byte_at s.memory at
  unfolding state_after
  still zero le = refl
  still (suc k) le = untouched k (omega (arith, le))

  pub no_change_in : (k : ℕ) → suc k ≤ n → None ≡ change_in x at (state_after Calls x k s)
  no_change_in k le =
      let u : State = state_after Calls x k s in
      no_change (runner_of (turned x u)) (byte_at u.memory at) (byte_at (turn Calls x u).state.memory at)
      (still k (omega (arith, le)) ∙ sym (untouched k (omega (arith, le))) ∙ ap (λ (t : Turn). byte_at t.state.memory at) (last_turn Calls x k s))

-- Turns after turns.
use Rattle.std.proofs.Common.{◌≡◌, ◌+◌, ℕ, zero, suc, refl, ◌∙◌, ap, arith}
use Rattle.task_table.specs.model.State.{State, Turn}
use Rattle.board_model.specs.declared.outcomes.Level.{Level}
use Rattle.board_model.specs.Script.{Scenario}
use Rattle.board_model.specs.Turn.{turn}
use Rattle.board_model.specs.Run.{turn_after, state_after}

pub last_turn : (level : Level) (x : Scenario) (n : ℕ) (s : State) → turn_after level x n s ≡ turn level x (state_after level x n s)
unfolding turn_after state_after
last_turn level x zero s = refl
last_turn level x (suc n) s = refl

-- n turns and one, and then k more
pub further : (level : Level) (x : Scenario) (n k : ℕ) (s : State) → state_after level x k (turn_after level x n s).state ≡ (turn_after level x (n + k) s).state
unfolding turn_after state_after
further level x n zero s = let e : n ≡ n + 0 = omega arith in ap (λ (m : ℕ). (turn_after level x m s).state) e
further level x n (suc k) s =
    let e : suc (n + k) ≡ n + suc k = omega arith in
    let u : State = (turn_after level x n s).state in
    ap (λ (t : Turn). t.state) (last_turn level x k u)
    ∙ ap (λ (v : State). (turn level x v).state) (further level x n k s)
    ∙ ap (λ (m : ℕ). (turn_after level x m s).state) e

-- n turns and one, and then the k-th of those after it
pub turn_further : (level : Level) (x : Scenario) (n k : ℕ) (s : State) → turn_after level x k (turn_after level x n s).state ≡ turn_after level x (n + suc k) s
unfolding turn_after
turn_further level x n k s =
    let e : suc (n + k) ≡ n + suc k = omega arith in
    last_turn level x k (turn_after level x n s).state
    ∙ ap (turn level x) (further level x n k s)
    ∙ ap (λ (m : ℕ). turn_after level x m s) e

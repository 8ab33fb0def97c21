use Rattle.std.proofs.Common.{◌≡◌, ℕ, ◌-◌, ◌≤◌}
use Rattle.board_model.specs.Script.{Scenario}
use Rattle.board_core.specs.Data.{boxed}
use Rattle.board_core.specs.Stands.{turns_of}
use Rattle.debug_core.specs.Runs.{state_at}
use Rattle.debug_core.specs.Times.{IsAt}
use Rattle.debug_core.proofs.Finding.{LastSoFar}
use Rattle.debug_core.proofs.replay.Replay.last_found.Given as goal

abbrev pub invariant-stretches : goal.invariant-stretches
invariant-stretches boxes l =
    let shown = boxed (λ p. (goal.Device-dyn boxes p).shown p.1) in
    (x : Scenario) (turn : ℕ) → IsAt shown x l.fn.self turn → turn ≤ l.to → (state_at x l.to).turn ≡ l.to → LastSoFar shown x l.sought turn l.to l.self l.last

abbrev pub decreases-stretches : goal.decreases-stretches
decreases-stretches boxes l = l.to - turns_of l.self.board

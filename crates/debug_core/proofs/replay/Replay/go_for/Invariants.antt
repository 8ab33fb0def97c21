use Rattle.std.proofs.Common.{ℕ, ◌-◌, ◌≤◌}
use Rattle.board_model.specs.Script.{Scenario}
use Rattle.board_core.specs.Data.{boxed}
use Rattle.board_core.specs.Stands.{turns_of}
use Rattle.debug_core.specs.Times.{IsAt}
use Rattle.debug_core.proofs.Finding.{Unfound}
use Rattle.debug_core.proofs.replay.Replay.go_for.Given as goal

abbrev pub invariant-stretches : goal.invariant-stretches
invariant-stretches boxes l =
    let shown = boxed (λ p. (goal.Device-dyn boxes p).shown p.1) in
    (x : Scenario) (turn : ℕ) → IsAt shown x l.fn.self turn → turn ≤ l.to → Unfound shown x l.sought turn l.to l.self

abbrev pub decreases-stretches : goal.decreases-stretches
decreases-stretches boxes l = l.to - turns_of l.self.board

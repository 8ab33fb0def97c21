use Rattle.std.proofs.Common.{ℕ, ◌≤◌}
use Rattle.board_model.specs.Script.{Scenario}
use Rattle.board_core.specs.Data.{boxed}
use Rattle.debug_core.specs.Times.{IsAt}
use Rattle.debug_core.proofs.Finding.{Behind}
use Rattle.debug_core.proofs.replay.Replay.back_for.Given as goal

abbrev pub invariant-segments : goal.invariant-segments
invariant-segments boxes l =
    let shown = boxed (λ p. (goal.Device-dyn boxes p).shown p.1) in
    (x : Scenario) (turn : ℕ) → IsAt shown x l.fn.self turn → l.low ≤ turn → Behind shown x l.sought l.low turn l.to l.self

abbrev pub decreases-segments : goal.decreases-segments
decreases-segments boxes l = l.to

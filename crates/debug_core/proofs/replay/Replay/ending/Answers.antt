use Rattle.std.proofs.Common.{◌≡◌, ◌∙◌, ℕ, ◌-◌, ap, sym, arith}
use Rattle.board_model.specs.Run.{ending}
use Rattle.board_model.proofs.SameTurn.{same_turn}
use Rattle.debug_core.specs.Runs.{state_at}
use Rattle.debug_core.proofs.Ahead.{ending_same}
use Rattle.debug_core.proofs.Standing.{turns_at}
use Rattle.debug_core.proofs.replay.Replay.ending.Goals as goal

pub ending-requires-clause-within : goal.ending-requires-clause-within
ending-requires-clause-within boxes c =
    let r = c.requires in
    let is = turns_at _ r.0 c.args.self.now r.1 r.2 in
    omega (arith, is, r.3)

pub returns-clause-end : goal.returns-clause-end
returns-clause-end boxes c = λ x turn h le.
    let u = h.state.0 in
    let here : u.turn ≡ turn = same_turn u (state_at x turn) h.state.2 ∙ h.reached in
    c.ending.ensures.end x u h.state.1 ∙ ap (λ (n : ℕ). ending x (c.args.limit - n) u) here ∙ ending_same x (c.args.limit - turn) u (state_at x turn) h.state.2

pub returns-clause-goes : goal.returns-clause-goes
returns-clause-goes boxes c = λ none x turn h.
    sym (ending_same x 1 h.state.0 (state_at x turn) h.state.2) ∙ c.ending.ensures.goes none x h.state.0 h.state.1

use Rattle.std.proofs.Common.{◌∙◌, arith}
use Rattle.debug_core.specs.Runs.{state_at}
use Rattle.debug_core.proofs.Ahead.{ending_same}
use Rattle.debug_core.proofs.Finding.{whole_notes, whole_turn}
use Rattle.debug_core.proofs.Standing.{turns_at}
use Rattle.debug_core.proofs.replay.Replay.make_turn.Goals as goal

pub turn_at-requires-clause-few : goal.turn_at-requires-clause-few
turn_at-requires-clause-few boxes c =
    let r = c.requires in
    let is = turns_at _ r.0 c.args.self.now r.1 r.2 in
    omega (arith, is, r.4)

pub returns-clause-at : goal.returns-clause-at
returns-clause-at boxes c = λ x n h on few.
    let u = h.state.0 in
    whole_turn _ x c.args.self.now n c.turn_at.new.self h (ending_same x 1 u (state_at x n) h.state.2 ∙ on) (c.turn_at.ensures.model x u h.state.1) few

pub returns-clause-notes : goal.returns-clause-notes
returns-clause-notes boxes c = λ x n h. c.turn_at.ensures.notes x h.state.0 h.state.1 ∙ whole_notes _ x c.args.self.now n h

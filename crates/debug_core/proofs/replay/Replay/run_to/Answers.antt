use Rattle.std.proofs.Common.{arith}
use Rattle.debug_core.proofs.Standing.{played, turns_at}
use Rattle.debug_core.proofs.replay.Replay.run_to.Goals as goal

pub play-requires-clause-from : goal.play-requires-clause-from
play-requires-clause-from boxes c =
    let r = c.requires.from in
    let is = turns_at _ r.0 c.args.self.now r.1 r.2 in
    omega (arith, is, r.3)

pub returns-clause-at : goal.returns-clause-at
returns-clause-at boxes c = λ x turn h le.
    played _ x c.args.self.now turn c.play.new.board c.args.to h le c.requires.few
    (c.in-Ok.ensures.last x h.state.0 h.state.1) (c.play.ensures.midway x h.state.0 h.state.1) c.play.ensures.within

use Rattle.std.proofs.Common.{◌∙◌, ◌<◌, ◌+◌, ◌-◌, ℕ, arith}
use Rattle.board_core.specs.Stands.{turns_of}
use Rattle.debug_core.specs.Runs.{state_at}
use Rattle.debug_core.proofs.Ahead.{ending_same}
use Rattle.debug_core.proofs.Hitting.{went_past}
use Rattle.debug_core.proofs.Standing.{turns_at, went}
use Rattle.debug_core.proofs.replay.Replay.advance_past.Goals as goal

pub keep-requires : goal.keep-requires
keep-requires boxes c =
    let r = c.requires.from in
    let h = r.2 in
    let t = c.args.self.now in
    let b = c.advance_past-hit.new.self in
    let n : ℕ = turns_of b - turns_of t.board - 1 in
    let is = turns_at _ r.0 t r.1 h in
    let first = ending_same r.0 1 h.state.0 (state_at r.0 r.1) h.state.2 ∙ r.3 in
    let few : r.1 + n < 1000000000 = omega (arith, is, c.advance_past-hit.ensures.more, c.advance_past-hit.ensures.within, c.requires.few) in
    let a = c.advance_past-hit.ensures.advanced r.0 h.state.0 h.state.1 in
    (r.0, r.1 + n + 1, went _ r.0 t r.1 n b h first a.goes_on a.stands few)

pub returns-clause-went : goal.returns-clause-went
returns-clause-went boxes c = λ x turn h on.
    let t = c.args.self.now in
    let b = c.advance_past-hit.new.self in
    let n : ℕ = turns_of b - turns_of t.board - 1 in
    let is = turns_at _ x t turn h in
    let first = ending_same x 1 h.state.0 (state_at x turn) h.state.2 ∙ on in
    let few : turn + n < 1000000000 = omega (arith, is, c.advance_past-hit.ensures.more, c.advance_past-hit.ensures.within, c.requires.few) in
    let a = c.advance_past-hit.ensures.advanced x h.state.0 h.state.1 in
    let at = c.keep.ensures.at x (turn + n + 1) (went _ x t turn n b h first a.goes_on a.stands few) in
    went_past _ x c.args.breakpoints.now t c.keep.new.self turn n _ h at first a.goes_on (c.advance_past-hit.ensures.passed x h.state.0 h.state.1) (c.advance_past-hit.ensures.hit x h.state.0 h.state.1)

use Rattle.std.proofs.Common.{◌≡◌, ◌∙◌, ◌+◌, ◌-◌, ◌<◌, ℕ, sym, arith}
use Rattle.board_core.specs.Stands.{turns_of}
use Rattle.debug_core.proofs.Finding.{noted_none, noted_some}
use Rattle.debug_core.proofs.Standing.{turns_at}
use Rattle.debug_core.proofs.replay.Replay.advance_to_note.Goals as goal

pub returns-in_err-note-clause-went : goal.returns-in_err-note-clause-went
returns-in_err-note-clause-went boxes c = λ x turn h first.
    let t = c.args.self.now in
    let b = c.advance.new.self in
    let n : ℕ = turns_of b - turns_of t.board - 1 in
    let few : turn + n < 1000000000 = omega (arith, turns_at _ x t turn h, c.advance.ensures.more, c.advance.ensures.within, c.requires.few) in
    noted_none _ x t turn n b h first (c.advance.ensures.advanced x h.state.0 h.state.1) few c.args.kind c.args.number c.notes.result.now _ c.notes.ensures (sym c.in_err-note.was ∙ c.first_sought.ensures) c.from_residual.ensures

pub returns-clause-went : goal.returns-clause-went
returns-clause-went boxes c = λ x turn h first.
    let t = c.args.self.now in
    let b = c.advance.new.self in
    let n : ℕ = turns_of b - turns_of t.board - 1 in
    let is = turns_at _ x t turn h in
    let few : turn + n < 1000000000 = omega (arith, is, c.advance.ensures.more, c.advance.ensures.within, c.requires.few) in
    let last : c.turns-turn.result - 1 ≡ turn + n = omega (arith, is, c.advance.ensures.more, c.turns-turn.ensures) in
    noted_some _ x t turn n b h first (c.advance.ensures.advanced x h.state.0 h.state.1) few c.args.kind c.args.number c.notes.result.now _ c.in_ok-note.note c.notes.ensures (sym c.in_ok-note.was ∙ c.first_sought.ensures) last

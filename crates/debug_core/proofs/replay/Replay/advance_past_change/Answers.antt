use Rattle.std.proofs.Common.{◌≡◌, ◌∙◌, ◌+◌, ◌-◌, ◌<◌, ℕ, Some, sym, ap, arith}
use Rattle.std.specs.Option.{option_map}
use Rattle.board_core.specs.Stands.{turns_of}
use Rattle.debug_core.specs.declared.answer.Answer.TheVariants.{Changed}
use Rattle.debug_core.proofs.Finding.{changed}
use Rattle.debug_core.proofs.Standing.{turns_at}
use Rattle.debug_core.proofs.replay.Replay.advance_past_change.Goals as goal

pub returns-in_err-change-clause-went : goal.returns-in_err-change-clause-went
returns-in_err-change-clause-went boxes c = λ x turn h first.
    let t = c.args.self.now in
    let b = c.advance_watching.new.self in
    let n : ℕ = turns_of b - turns_of t.board - 1 in
    let went = c.advance_watching.ensures in
    let few : turn + n < 1000000000 = omega (arith, turns_at _ x t turn h, went.more, went.within, c.requires.few) in
    changed _ x t turn n c.args.at b h first (went.advanced x h.state.0 h.state.1) few (went.untouched x h.state.0 h.state.1) c.advance_watching.result _ (went.changed x h.state.0 h.state.1)
    (c.from_residual.ensures ∙ ap (λ o. option_map (λ change. Changed (turn + n) change.task c.args.at change.old change.new) o) (sym c.in_err-change.was))

pub returns-clause-went : goal.returns-clause-went
returns-clause-went boxes c = λ x turn h first.
    let t = c.args.self.now in
    let b = c.advance_watching.new.self in
    let n : ℕ = turns_of b - turns_of t.board - 1 in
    let went = c.advance_watching.ensures in
    let is = turns_at _ x t turn h in
    let few : turn + n < 1000000000 = omega (arith, is, went.more, went.within, c.requires.few) in
    let last : c.turns.result - 1 ≡ turn + n = omega (arith, is, went.more, c.turns.ensures) in
    changed _ x t turn n c.args.at b h first (went.advanced x h.state.0 h.state.1) few (went.untouched x h.state.0 h.state.1) c.advance_watching.result _ (went.changed x h.state.0 h.state.1)
    (ap (λ k. Some (Changed k c.in_ok-change.change.task c.args.at c.in_ok-change.change.old c.in_ok-change.change.new)) last ∙ ap (λ o. option_map (λ change. Changed (turn + n) change.task c.args.at change.old change.new) o) (sym c.in_ok-change.was))

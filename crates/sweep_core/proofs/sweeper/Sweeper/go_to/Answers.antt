use Rattle.std.proofs.Common.{◌+◌, length, arith}
use Rattle.run_script.specs.Events.{script_data}
use Rattle.board_model.specs.Laid.{laid, with_script}
use Rattle.board_core.specs.Data.{boxed}
use Rattle.sweep_core.specs.Sweeping.{own_script}
use Rattle.sweep_core.proofs.Going.{come_within}
use Rattle.sweep_core.proofs.Sweeps.{arrived, not_laid, turns_within}
use Rattle.sweep_core.proofs.sweeper.Sweeper.go_to.Goals as goal

pub returns-then-not-lay-clause-stays : goal.returns-then-not-lay-clause-stays
returns-then-not-lay-clause-stays g c = λ e x arrival h.
    let shown = boxed (λ p. (goal.Device-dyn g p).shown p.1) in
    not_laid shown x arrival c.args.self.now c.args.time c.args.limit c.lay.new.laid h (c.lay.ensures.room (length x.script.events + length arrival) h.scripts.spare)

pub exchange_script-requires : goal.exchange_script-requires
exchange_script-requires g c =
    let shown = boxed (λ p. (goal.Device-dyn g p).shown p.1) in
    let r = c.requires.before in
    let h = r.2 in
    let within = turns_within shown r.0 r.1 (laid r.0.script r.1 h.turn) c.args.self.now h.turn h.scripts.start h.come in
    let few = h.few in
    omega (arith, within, few, c.requires.few)

pub play_to-requires-clause-stood : goal.play_to-requires-clause-stood
play_to-requires-clause-stood g c =
    let x = c.requires.before.0 in
    let come = c.requires.before.2.come in
    let holds = c.exchange_script.ensures.holds (with_script x (own_script c.args.self.now)) come.state come.stands.holds in
    (with_script x (script_data c.lay.new.laid), come.state, record { holds = holds; sane = come.stands.sane; counted = come.stands.counted })

pub play_to-requires-clause-from : goal.play_to-requires-clause-from
play_to-requires-clause-from g c =
    let x = c.requires.before.0 in
    let h = c.requires.before.2 in
    let holds = c.exchange_script.ensures.holds (with_script x (own_script c.args.self.now)) h.come.state h.come.stands.holds in
    let turns = holds.turns in
    let within = come_within x (laid x.script c.requires.before.1 h.turn) h.scripts.start h.turn h.come.state h.come.same in
    let early = h.early in
    let few = h.few in
    omega (arith, turns, within, early, few, c.min.ensures)

pub returns-clause-at : goal.returns-clause-at
returns-clause-at g c = λ e x arrival h.
    let shown = boxed (λ p. (goal.Device-dyn g p).shown p.1) in
    let w = c.args.self.now in
    let u = h.come.state in
    let z = with_script x (script_data c.lay.new.laid) in
    let made = c.if-not-lay.false in
    let holds = c.exchange_script.ensures.holds (with_script x (own_script w)) u h.come.stands.holds in
    arrived shown x arrival w c.args.time c.args.limit c.lay.new.laid c.exchange_script.new.script c.play_to.new.board c.play_to.new.tally c.min.result h c.min.ensures (c.lay.ensures.same made) (c.lay.ensures.count made) c.exchange_script.ensures.given
    (c.play_to.ensures.last z u (record { holds = holds; sane = h.come.stands.sane; counted = h.come.stands.counted }))
    (c.play_to.ensures.heard z u (record { holds = holds; sane = h.come.stands.sane; counted = h.come.stands.counted }))

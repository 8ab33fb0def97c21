use Rattle.std.proofs.Common.{arith}
use Rattle.board_model.specs.Laid.{with_script}
use Rattle.board_core.specs.Data.{boxed}
use Rattle.sweep_core.specs.Sweeping.{own_script}
use Rattle.sweep_core.proofs.Sweeps.{turns_within, with_room}
use Rattle.sweep_core.proofs.sweeper.Sweeper.take_room.Goals as goal

pub exchange_script-requires : goal.exchange_script-requires
exchange_script-requires g c =
    let shown = boxed (λ p. (goal.Device-dyn g p).shown p.1) in
    let r = c.requires in
    let start = turns_within shown r.0 r.1 r.0.script c.args.self.now 0 r.2.scripts.start r.2.come in
    omega (arith, start)

pub returns-clause-before : goal.returns-clause-before
returns-clause-before g c = λ x arrival h.
    let shown = boxed (λ p. (goal.Device-dyn g p).shown p.1) in
    let w = c.args.self.now in
    let e = c.exchange_script in
    with_room shown x arrival w e.new.self e.new.script h (e.ensures.holds (with_script x (own_script w)) h.come.state h.come.stands.holds) e.ensures.taken e.ensures.given

use Rattle.std.proofs.Common.{◌≤◌, subst, arith}
use Rattle.board_core.specs.Data.{boxed}
use Rattle.debug_core.specs.Times.{IsAt}
use Rattle.debug_core.proofs.Ahead.{reaches}
use Rattle.debug_core.proofs.replay.Replay.back_before.Goals as goal

pub last_until-place-requires : goal.last_until-place-requires
last_until-place-requires boxes c =
    let h = c.requires.from.2 in
    record { first = h.first; some = omega (arith, h.count) }

pub load-requires-clause-saved : goal.load-requires-clause-saved
load-requires-clause-saved boxes c =
    let r = c.requires.from in
    (r.0, r.1, r.2, c.last_until-place.result.1, c.last_until-place.ensures.is)

pub run_to-requires-clause-from : goal.run_to-requires-clause-from
run_to-requires-clause-from boxes c =
    let r = c.requires.from in
    let turn = c.last_until-place.result.1 in
    (r.0, turn, c.load.ensures r.0 r.1 turn r.2 c.last_until-place.ensures.is, omega (arith, c.max-from.ensures))

pub run_to-requires-clause-few : goal.run_to-requires-clause-few
run_to-requires-clause-few boxes c =
    let r = c.requires.from in
    omega (arith, c.max-from.ensures, c.last_until-place.ensures.early, c.requires.some, r.3, r.2.most)

pub returns-clause-at : goal.returns-clause-at
returns-clause-at boxes c = λ x turn h le.
    let shown = boxed (λ p. (goal.Device-dyn boxes p).shown p.1) in
    let loaded = c.load.ensures x turn c.last_until-place.result.1 h c.last_until-place.ensures.is in
    let before : c.max-from.result ≤ turn = omega (arith, c.max-from.ensures, c.last_until-place.ensures.early, c.requires.some, le) in
    subst (λ n. IsAt shown x c.run_to.new.self n) (reaches x h.start turn c.max-from.result h.reached before) (c.run_to.ensures.at x c.last_until-place.result.1 loaded (omega (arith, c.max-from.ensures)))

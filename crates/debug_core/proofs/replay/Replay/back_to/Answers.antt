use Rattle.std.proofs.Common.{subst}
use Rattle.board_core.specs.Data.{boxed}
use Rattle.debug_core.specs.Times.{IsAt}
use Rattle.debug_core.proofs.Ahead.{reaches}
use Rattle.debug_core.proofs.replay.Replay.back_to.Goals as goal

pub load-requires-clause-saved : goal.load-requires-clause-saved
load-requires-clause-saved boxes c =
    let r = c.requires in
    (r.0, r.1, r.2, c.last_until-place.result.1, c.last_until-place.ensures.is)

pub go_to-requires-clause-from : goal.go_to-requires-clause-from
go_to-requires-clause-from boxes c =
    let r = c.requires in
    let from = c.last_until-place.result.1 in
    (r.0, from, c.load.ensures r.0 r.1 from r.2 c.last_until-place.ensures.is, c.last_until-place.ensures.early)

pub returns : goal.returns
returns boxes c = λ x turn h le.
    let shown = boxed (λ p. (goal.Device-dyn boxes p).shown p.1) in
    let from = c.last_until-place.result.1 in
    let there = reaches x h.start turn c.args.to h.reached le in
    subst (λ n. IsAt shown x c.go_to.new.self n) there
    (c.go_to.ensures x from (c.load.ensures x turn from h c.last_until-place.ensures.is) c.last_until-place.ensures.early)

use Rattle.std.proofs.Common.{refl}
use Rattle.explore_core.specs.Watching.{looked}
use Rattle.explore_core.proofs.Watched.{look_one, map_over_all}
use Rattle.explore_core.proofs.judging.look_before.Goals as goal

pub loop-one-init : goal.loop-one-init
loop-one-init g c = λ x s st. refl

pub loop-one-preserved : goal.loop-one-preserved
loop-one-preserved g c = λ x s st.
    let i = c.loop-one in
    look_one s c.args.watched.now i.watched i.one-index _ c.byte_before-one.result c.loop-one-test.true i.auto.watched (i.invariant x s st) (c.byte_before-one.ensures x s st)

pub returns : goal.returns
returns g c = λ x s st. map_over_all (looked s) c.args.watched.now c.loop-one.watched c.loop-one.one-index c.loop-one-test.false (c.loop-one.invariant x s st)

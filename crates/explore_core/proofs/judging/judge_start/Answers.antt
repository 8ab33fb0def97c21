use Rattle.std.proofs.Common.{refl}
use Rattle.explore_core.specs.declared.watch.Watched.{Watched}
use Rattle.explore_core.specs.There.{AreThere}
use Rattle.explore_core.specs.Watching.{begun, begun_in}
use Rattle.explore_core.proofs.Watched.{judge_one, map_over_all, one_of_rest}
use Rattle.explore_core.proofs.judging.judge_start.Goals as goal

pub loop-one-init : goal.loop-one-init
loop-one-init g c = λ x s st all. refl

pub loop-one-preserved : goal.loop-one-preserved
loop-one-preserved g c = λ x s st all.
    let i = c.loop-one in
    judge_one (λ (w : Watched). begun w.property s w.verdict) c.args.watched.now i.watched i.one-index _ c.begin-one.result c.loop-one-test.true i.auto.watched (i.invariant x s st all)
    (c.begin-one.ensures x s st (one_of_rest (begun_in s) (λ (w : Watched). AreThere w.property s) c.args.watched.now i.watched i.one-index _ c.loop-one-test.true (i.invariant x s st all) all))

pub returns : goal.returns
returns g c = λ x s st all. map_over_all (begun_in s) c.args.watched.now c.loop-one.watched c.loop-one.one-index c.loop-one-test.false (c.loop-one.invariant x s st all)

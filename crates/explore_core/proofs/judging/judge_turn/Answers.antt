use Rattle.std.proofs.Common.{refl}
use Rattle.board_core.specs.Data.{boxed}
use Rattle.explore_core.specs.declared.watch.Watched.{Watched}
use Rattle.explore_core.specs.Made.{IsMade}
use Rattle.explore_core.specs.Verdicts.{stepped}
use Rattle.explore_core.specs.Watching.{stepped_in}
use Rattle.explore_core.proofs.Watched.{judge_one, map_over_all, one_of_rest}
use Rattle.explore_core.proofs.judging.judge_turn.Goals as goal

pub loop-one-init : goal.loop-one-init
loop-one-init g c = λ x s all. refl

pub loop-one-preserved : goal.loop-one-preserved
loop-one-preserved g c = λ x s all.
    let shown = boxed (λ p. (goal.Device-dyn g p).shown p.1) in
    let i = c.loop-one in
    judge_one (λ (w : Watched). stepped w.property x w.verdict s) c.args.watched.now i.watched i.one-index _ c.step-one.result c.loop-one-test.true i.auto.watched (i.invariant x s all)
    (c.step-one.ensures x s (one_of_rest (stepped_in x s) (λ (w : Watched). IsMade shown x w.property w.before c.args.made c.args.board.now s) c.args.watched.now i.watched i.one-index _ c.loop-one-test.true (i.invariant x s all) all))

pub returns : goal.returns
returns g c = λ x s all. map_over_all (stepped_in x s) c.args.watched.now c.loop-one.watched c.loop-one.one-index c.loop-one-test.false (c.loop-one.invariant x s all)

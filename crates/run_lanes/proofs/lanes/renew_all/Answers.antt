use Rattle.std.proofs.Common.{length, arith}
use Rattle.std.proofs.lemmas.List.FromFn.{fill_by_all}
use Rattle.run_lanes.specs.Timeline.{activity_at, all_renewed, nothing_yet, renewed, stretch_at}
use Rattle.run_lanes.proofs.lanes.renew_all.Goals as goal

pub returns : goal.returns
unfolding all_renewed
returns c =
    let ss = c.args.stretches.now in
    fill_by_all (λ i. renewed c.args.turn (stretch_at ss i) (activity_at c.args.activities.now i)) c.loop-i.stretches (length ss) (nothing_yet 0) (omega (arith, c.loop-i.auto.stretches))
    (λ k lt. c.loop-i.invariant.so_far k (nothing_yet 0) (omega (arith, lt, c.loop-i-test.false, c.loop-i.auto.i-end)))

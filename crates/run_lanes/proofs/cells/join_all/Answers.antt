use Rattle.run_lanes.proofs.Changes.{halves_more, halves_room}
use Rattle.run_lanes.proofs.cells.join_all.Goals as goal

pub loop-k-preserved : goal.loop-k-preserved
loop-k-preserved c =
    let p = halves_more c.args.cells.now c.loop-k.cells c.join_columns.new.cells c.args.tasks c.loop-k.k (halves_room c.args.tasks c.loop-k.k c.args.cells.now c.loop-k-test.true c.requires.room) c.loop-k.invariant.made c.loop-k.invariant.behind c.join_columns.ensures in
    record { made = p.0; behind = p.1 }

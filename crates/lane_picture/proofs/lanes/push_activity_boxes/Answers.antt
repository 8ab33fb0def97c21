use Rattle.lane_picture.specs.Drawing.{activity_box}
use Rattle.lane_picture.specs.Sizes.{drawn_of}
use Rattle.lane_picture.proofs.Ranges.{one_more}
use Rattle.lane_picture.proofs.lanes.push_activity_boxes.Goals as goal

pub loop-k-preserved : goal.loop-k-preserved
loop-k-preserved c = one_more (activity_box (drawn_of c.args.picture.now) c.args.i c.args.activity) c.args.out.now.items _ _ c.loop-k.k c.loop-k.invariant c.in_ok-push_activity_box.ensures

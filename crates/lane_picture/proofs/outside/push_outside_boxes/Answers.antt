use Rattle.lane_picture.specs.Drawing.{outside_box}
use Rattle.lane_picture.specs.Sizes.{drawn_of}
use Rattle.lane_picture.proofs.Ranges.{one_more}
use Rattle.lane_picture.proofs.outside.push_outside_boxes.Goals as goal

pub loop-k-preserved : goal.loop-k-preserved
loop-k-preserved c = one_more (outside_box (drawn_of c.args.picture.now)) c.args.out.now.items _ _ c.loop-k.k c.loop-k.invariant c.in_ok-push_outside_box.ensures

use Rattle.lane_picture.specs.Drawing.{lane_text}
use Rattle.lane_picture.specs.Sizes.{drawn_of}
use Rattle.lane_picture.proofs.Ranges.{one_more}
use Rattle.lane_picture.proofs.lanes.push_lanes.Goals as goal

pub loop-i-preserved : goal.loop-i-preserved
loop-i-preserved c = one_more (lane_text (drawn_of c.args.picture.now)) c.args.out.now.items _ _ c.loop-i.i c.loop-i.invariant c.in_ok-push_lane.ensures

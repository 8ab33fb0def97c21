use Rattle.lane_picture.specs.Drawing.{activity_path}
use Rattle.lane_picture.specs.Sizes.{drawn_of}
use Rattle.lane_picture.proofs.Ranges.{one_more}
use Rattle.lane_picture.proofs.lanes.push_activity_paths.Goals as goal

pub loop-activity-preserved : goal.loop-activity-preserved
loop-activity-preserved c = one_more (activity_path (drawn_of c.args.picture.now) c.args.i) c.args.out.now.items _ _ c.loop-activity.activity c.loop-activity.invariant c.in_ok-push_activity_path.ensures

use Rattle.lane_picture.specs.Drawing.{event_text}
use Rattle.lane_picture.specs.Sizes.{drawn_of}
use Rattle.lane_picture.proofs.Ranges.{one_more}
use Rattle.lane_picture.proofs.events.push_each_event.Goals as goal

pub loop-j-preserved : goal.loop-j-preserved
loop-j-preserved c = one_more (event_text (drawn_of c.args.picture.now)) c.args.out.now.items _ _ c.loop-j.j c.loop-j.invariant c.in_ok-push_event.ensures

use Rattle.lane_picture.specs.Drawing.{grid_line}
use Rattle.lane_picture.proofs.Pieces.{ended, grown, numbered}
use Rattle.lane_picture.proofs.heading.push_grid_line.Goals as goal

pub returns : goal.returns
unfolding grid_line
returns c =
    let o = c.args.out.now.items in
    let to_2 = numbered o _ _ _ _ _ c.in_ok-push_text.ensures c.in_ok-push_decimal.ensures c.turn_left-left.ensures in
    let to_3 = grown o _ _ _ _ to_2 c.in_ok-push_text-2.ensures in
    let to_4 = numbered o _ _ _ _ _ to_3 c.in_ok-push_decimal-2.ensures c.lanes_end.ensures.is in
    let to_5 = grown o _ _ _ _ to_4 c.in_ok-push_text-3.ensures in
    let to_6 = numbered o _ _ _ _ _ to_5 c.in_ok-push_decimal-3.ensures c.turn_left-left.ensures in
    let to_7 = grown o _ _ _ _ to_6 c.in_ok-push_text-4.ensures in
    let to_8 = numbered o _ _ _ _ _ to_7 c.in_ok-push_decimal-4.ensures c.from.ensures in
    ended _ o _ _ _ _ to_8 c.push_text-5.ensures

use Rattle.lane_picture.specs.Drawing.{opening_text}
use Rattle.lane_picture.proofs.Pieces.{ended, grown, numbered}
use Rattle.lane_picture.proofs.heading.push_opening.Goals as goal

pub returns : goal.returns
unfolding opening_text
returns c =
    let o = c.args.out.now.items in
    let to_2 = numbered o _ _ _ _ _ c.in_ok-push_text.ensures c.in_ok-push_decimal.ensures c.height-high.ensures in
    let to_3 = grown o _ _ _ _ to_2 c.in_ok-push_text-2.ensures in
    let to_4 = numbered o _ _ _ _ _ to_3 c.in_ok-push_decimal-2.ensures c.height-high.ensures in
    let to_5 = grown o _ _ _ _ to_4 c.in_ok-push_text-3.ensures in
    let to_6 = grown o _ _ _ _ to_5 c.in_ok-push_escaped.ensures in
    ended _ o _ _ _ _ to_6 c.push_text-4.ensures

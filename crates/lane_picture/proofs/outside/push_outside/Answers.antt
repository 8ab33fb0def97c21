use Rattle.std.proofs.Common.{◌∙◌}
use Rattle.lane_picture.specs.Drawing.{outside_text}
use Rattle.lane_picture.proofs.Pieces.{ended, grown, numbered}
use Rattle.lane_picture.proofs.outside.push_outside.Goals as goal

pub returns : goal.returns
unfolding outside_text
returns c =
    let o = c.args.out.now.items in
    let to_2 = grown o _ _ _ _ c.in_ok-push_text.ensures c.in_ok-push_outside_boxes.ensures in
    let to_3 = grown o _ _ _ _ to_2 c.in_ok-push_text-2.ensures in
    let to_4 = numbered o _ _ _ _ _ to_3 c.in_ok-push_decimal.ensures (c.from.ensures ∙ c.most_outside-most.ensures) in
    ended _ o _ _ _ _ to_4 c.push_text-3.ensures

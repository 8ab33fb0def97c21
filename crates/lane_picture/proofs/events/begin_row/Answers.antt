use Rattle.lane_picture.proofs.Pieces.{ended, grown, numbered}
use Rattle.lane_picture.proofs.events.begin_row.Goals as goal

pub returns : goal.returns
returns c =
    let o = c.args.out.now.items in
    let to_2 = numbered o _ _ _ _ _ c.in_ok-push_text.ensures c.in_ok-push_decimal.ensures c.row_line.ensures in
    let to_3 = grown o _ _ _ _ to_2 c.in_ok-push_text-2.ensures in
    let to_4 = grown o _ _ _ _ to_3 c.in_ok-push_text-3.ensures in
    ended _ o _ _ _ _ to_4 c.push_text-4.ensures

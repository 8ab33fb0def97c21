use Rattle.lane_picture.proofs.Pieces.{ended, grown, numbered}
use Rattle.lane_picture.proofs.names.push_asked.Goals as goal

pub returns-in_ok-push_text-in-Some-2 : goal.returns-in_ok-push_text-in-Some-2
returns-in_ok-push_text-in-Some-2 c =
    let o = c.args.out.now.items in
    let to_2 = numbered o _ _ _ _ _ c.in_ok-push_text-in-Some.ensures c.in_ok-push_decimal-in-Some.ensures c.from.ensures in
    let to_3 = grown o _ _ _ _ to_2 c.in_ok-push_text-in-Some-2.ensures in
    rw c.in-Some.is (ended _ o _ _ _ _ to_3 (rw c.from-in-Some.ensures at c.push_name.ensures))

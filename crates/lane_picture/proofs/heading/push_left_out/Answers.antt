use Rattle.std.proofs.lemmas.Bool.{lt-ltb}
use Rattle.lane_picture.proofs.Pieces.{ended, grown}
use Rattle.lane_picture.proofs.heading.push_left_out.Goals as goal

pub returns-in_ok-push_decimal : goal.returns-in_ok-push_decimal
returns-in_ok-push_decimal c =
    let o = c.args.out.now.items in
    let to_2 = grown o _ _ _ _ c.in_ok-push_text.ensures c.in_ok-push_decimal.ensures in
    rw (lt-ltb 300 c.args.arrows c.if-arrows-gt-MOST_ARROWS.true) (ended _ o _ _ _ _ to_2 c.push_text-then-arrows-gt-MOST_ARROWS.ensures)

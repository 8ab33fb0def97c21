use Rattle.std.specs.Prelude.{string_bytes}
use Rattle.std.proofs.lemmas.List.{length-map}
use Rattle.lane_picture.specs.Drawing.{row_text}
use Rattle.lane_picture.proofs.Pieces.{ended, grown}
use Rattle.lane_picture.proofs.events.push_more.Goals as goal

pub returns : goal.returns
unfolding row_text
returns c =
    let o = c.args.out.now.items in
    let front = c.begin_row.new.out.items in
    let words_2 = grown front _ _ _ _ c.in_ok-push_text.ensures c.in_ok-push_decimal.ensures in
    let words_3 = grown front _ _ _ _ words_2 c.in_ok-push_text-2.ensures in
    let to_2 = grown o _ _ _ _ c.in_ok-begin_row.ensures words_3 in
    rw (length-map c.args.picture.now.events.now string_bytes) (ended _ o _ _ _ _ to_2 c.end_row.ensures)

use Rattle.std.proofs.Common.{◌≡◌, ◌∙◌, [], get_or, map, sym}
use Rattle.std.specs.Prelude.{string_bytes}
use Rattle.std.proofs.lemmas.List.{get_or-map}
use Rattle.lane_picture.specs.Drawing.{row_text}
use Rattle.lane_picture.proofs.Pieces.{ended, grown}
use Rattle.lane_picture.proofs.events.push_event.Goals as goal

pub returns : goal.returns
unfolding row_text
returns c =
    let o = c.args.out.now.items in
    let events = c.args.picture.now.events.now in
    let words : c.as_str.result.now ≡ get_or (map string_bytes events) c.args.j [] =
    c.as_str.ensures.value ∙ sym (get_or-map string_bytes events c.args.j c.index-picture-j.result [] c.requires.within) in
    let to_2 = grown o _ _ _ _ c.in_ok-begin_row.ensures (rw words at c.in_ok-push_escaped.ensures) in
    ended _ o _ _ _ _ to_2 c.end_row.ensures

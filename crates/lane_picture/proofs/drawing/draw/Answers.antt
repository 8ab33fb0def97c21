use Rattle.std.proofs.Common.{◌∙◌, ◌++◌, List, ℕ, ap}
use Rattle.lane_picture.specs.Drawing.{drawing_text}
use Rattle.lane_picture.specs.Sizes.{drawn_of}
use Rattle.lane_picture.proofs.Pieces.{grown}
use Rattle.lane_picture.proofs.drawing.draw.Goals as goal

pub returns : goal.returns
unfolding drawing_text
returns c =
    let o = c.new-out.result.items in
    let to_2 = grown o _ _ _ _ c.in_ok-push_opening.ensures c.in_ok-push_look.ensures in
    let to_3 = grown o _ _ _ _ to_2 c.in_ok-push_head.ensures in
    let to_4 = grown o _ _ _ _ to_3 c.in_ok-push_axis.ensures in
    let to_5 = grown o _ _ _ _ to_4 c.in_ok-push_outside.ensures in
    let to_6 = grown o _ _ _ _ to_5 c.in_ok-push_lanes.ensures in
    let to_7 = grown o _ _ _ _ to_6 c.in_ok-push_arrows.ensures in
    let to_8 = grown o _ _ _ _ to_7 c.in_ok-push_events.ensures in
    let to_9 = grown o _ _ _ _ to_8 c.in_ok-push_text.ensures in
    to_9 ∙ ap (λ (before : List ℕ). before ++ drawing_text (drawn_of c.args.picture.now)) c.new-out.ensures.items

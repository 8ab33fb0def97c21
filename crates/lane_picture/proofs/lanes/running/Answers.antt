use Rattle.std.proofs.Common.{◌≡◌, ◌∙◌, ap, arith, get_or}
use Rattle.lane_picture.specs.declared.parts.Cell.{Cell}
use Rattle.lane_picture.specs.Sizes.{cell_at, drawn_of}
use Rattle.lane_picture.proofs.Ranges.{total_more}
use Rattle.lane_picture.proofs.lanes.running.Goals as goal

pub loop-k-preserved : goal.loop-k-preserved
loop-k-preserved c =
    let d = drawn_of c.args.picture.now in
    let turns : c.from-turns.result ≡ get_or (cell_at d c.loop-k.k c.args.i).turns 0 0 =
    c.from-turns.ensures ∙ ap (λ (cell : Cell). get_or cell.turns 0 0) c.cell_at.ensures in
    (total_more (λ k. get_or (cell_at d k c.args.i).turns 0 0) _ _ _ c.loop-k.invariant.0 turns, omega arith)

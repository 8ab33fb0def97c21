use Rattle.std.proofs.Common.{◌≡◌, ◌*◌, ◌∙◌, arith}
use Rattle.lane_picture.specs.Drawing.{grid_line_within, step}
use Rattle.lane_picture.specs.Sizes.{drawn_of}
use Rattle.lane_picture.proofs.Ranges.{one_more}
use Rattle.lane_picture.proofs.heading.push_axis.Goals as goal

pub loop-j-preserved : goal.loop-j-preserved
loop-j-preserved c =
    one_more (λ j. grid_line_within (drawn_of c.args.picture.now) (j * c.from-step.result)) c.args.out.now.items _ _ c.loop-j.j c.loop-j.invariant c.in_ok-push_grid_line_within.ensures

pub returns : goal.returns
returns c =
    let all : c.loop-j.j ≡ 11 = omega arith in
    let by : c.from-step.result ≡ step c.args.picture.now.turns = c.from-step.ensures ∙ c.step.ensures in
    rw (all, by) at c.loop-j.invariant

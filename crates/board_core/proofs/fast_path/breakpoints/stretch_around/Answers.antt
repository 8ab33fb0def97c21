use Rattle.std.proofs.Common.{refl, arith}
use Rattle.board_core.proofs.fast.Stretches.{stretched}
use Rattle.board_core.proofs.fast_path.breakpoints.stretch_around.Goals as goal

pub returns : goal.returns
returns c =
    let kept = c.loop-breakpoint.invariant in
    let r = c.args.region.now in
    stretched c.args.breakpoints.now r.base r.size c.args.pc _ c.loop-breakpoint.from c.loop-breakpoint.to c.requires.from refl kept.from kept.to kept.inside
    (λ k lt. kept.free k (omega (arith, lt, c.loop-breakpoint-test.false)))
    kept.before kept.behind

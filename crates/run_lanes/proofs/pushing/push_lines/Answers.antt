use Rattle.std.proofs.Common.{◌<◌, ◌∙◌, ap, length, arith, subst}
use Rattle.std.specs.Prelude.{string_bytes}
use Rattle.std.proofs.lemmas.Result.{err_from_is_err_and}
use Rattle.outside_io.specs.Outside.{AppendsFront}
use Rattle.outside_io.proofs.Pushing.{each_fails}
use Rattle.run_lanes.proofs.pushing.push_lines.Goals as goal

pub returns-in_err-push-clause-bytes : goal.returns-in_err-push-clause-bytes
returns-in_err-push-clause-bytes g c =
    let p = err_from_is_err_and c.from_residual.result c.from_residual.ensures.1 in
    let within : c.loop-line.line-index < length c.args.lines.now = omega (arith, c.loop-line-test.true) in
    each_fails string_bytes c.args.lines.now c.loop-line.line-index c.line-item.result _ _ _ c.from_residual.result p.0 p.1 within c.loop-line.invariant.pushed
    (subst (AppendsFront (g.S.Sink.seen c.loop-line.out).written (g.S.Sink.seen c.push.new.self).written) (c.as_bytes.ensures.value ∙ ap string_bytes c.line-item.is) c.in_err-push.ensures.bytes)

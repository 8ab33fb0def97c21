use Rattle.std.proofs.Common.{◌≡◌, length, arith, subst, ℕ}
use Rattle.std.proofs.lemmas.Result.{err_from_is_err_and}
use Rattle.std.specs.Io.KnownBytes.{Appends}
use Rattle.std.specs.List.{flat_map, range_with_len}
use Rattle.run_lanes.specs.Timeline.{activity_at, over_text, overs_text, stretch_at}
use Rattle.run_lanes.proofs.Pushed.{over_fails, over_more}
use Rattle.run_lanes.proofs.pushing.push_overs.Goals as goal

pub loop-i-preserved : goal.loop-i-preserved
loop-i-preserved g c = record {
  pushed = over_more _ _ _ c.args.turn c.loop-i.i c.args.stretches.now c.args.activities.now _ _ (omega (arith, c.loop-i-test.true)) c.activity_at.ensures c.loop-i.invariant.pushed c.in_ok-push_if_over.ensures.bytes;
  later = omega (arith, c.loop-i.invariant.later, c.in_ok-push_if_over.ensures.cause.later);
}

pub returns-in_err-push_if_over-clause-bytes : goal.returns-in_err-push_if_over-clause-bytes
unfolding overs_text
returns-in_err-push_if_over-clause-bytes g c =
    let p = err_from_is_err_and c.from_residual.result c.from_residual.ensures.1 in
    over_fails _ _ _ c.args.turn c.loop-i.i c.args.stretches.now c.args.activities.now _ _ c.from_residual.result p.0 p.1 (omega (arith, c.loop-i-test.true)) c.activity_at.ensures c.loop-i.invariant.pushed c.in_err-push_if_over.ensures.bytes

pub returns-clause-bytes : goal.returns-clause-bytes
unfolding overs_text
returns-clause-bytes g c =
    let all : c.loop-i.i ≡ length c.args.stretches.now = omega (arith, c.loop-i-test.false, c.loop-i.auto.i-end) in
    let P : ℕ → Type 0 = λ n. Appends (g.S.Sink.seen c.args.out.now).written (g.S.Sink.seen c.loop-i.out).written (flat_map (λ i. over_text c.args.turn i (stretch_at c.args.stretches.now i) (activity_at c.args.activities.now i)) (range_with_len 0 n)) in
    subst P all c.loop-i.invariant.pushed

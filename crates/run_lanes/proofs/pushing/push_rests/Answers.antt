use Rattle.std.proofs.Common.{◌≡◌, length, arith, subst, ℕ}
use Rattle.std.proofs.lemmas.Result.{err_from_is_err_and}
use Rattle.std.specs.Io.KnownBytes.{Appends}
use Rattle.std.specs.List.{flat_map, range_with_len}
use Rattle.run_lanes.specs.Timeline.{ended_text, rests_text, stretch_at}
use Rattle.run_lanes.proofs.Pushed.{rest_fails, rest_more}
use Rattle.run_lanes.proofs.pushing.push_rests.Goals as goal

pub loop-i-preserved : goal.loop-i-preserved
loop-i-preserved g c = record {
  pushed = rest_more _ _ _ c.args.turn c.loop-i.i c.args.stretches.now _ (omega (arith, c.loop-i-test.true)) c.loop-i.invariant.pushed c.in_ok-push_ended.ensures.bytes;
  later = omega (arith, c.loop-i.invariant.later, c.in_ok-push_ended.ensures.cause.later);
}

pub returns-in_err-push_ended-clause-bytes : goal.returns-in_err-push_ended-clause-bytes
unfolding rests_text
returns-in_err-push_ended-clause-bytes g c =
    let p = err_from_is_err_and c.from_residual.result c.from_residual.ensures.1 in
    rest_fails _ _ _ c.args.turn c.loop-i.i c.args.stretches.now _ c.from_residual.result p.0 p.1 (omega (arith, c.loop-i-test.true)) c.loop-i.invariant.pushed c.in_err-push_ended.ensures.bytes

pub returns-clause-bytes : goal.returns-clause-bytes
unfolding rests_text
returns-clause-bytes g c =
    let all : c.loop-i.i ≡ length c.args.stretches.now = omega (arith, c.loop-i-test.false, c.loop-i.auto.i-end) in
    let P : ℕ → Type 0 = λ n. Appends (g.S.Sink.seen c.args.out.now).written (g.S.Sink.seen c.loop-i.out).written (flat_map (λ i. ended_text c.args.turn i (stretch_at c.args.stretches.now i)) (range_with_len 0 n)) in
    subst P all c.loop-i.invariant.pushed

use Rattle.std.proofs.Common.{◌≡◌, arith, subst, ℕ}
use Rattle.std.proofs.lemmas.Result.{err_from_is_err_and}
use Rattle.std.specs.Io.KnownBytes.{Appends}
use Rattle.std.specs.List.{flat_map, range_with_len}
use Rattle.board_run.proofs.Appending.{range_fails, range_pushed}
use Rattle.run_lanes.specs.Timeline.{order_text, orders_text}
use Rattle.run_lanes.proofs.pushing.push_orders.Goals as goal

pub loop-thread-preserved : goal.loop-thread-preserved
loop-thread-preserved g c = record {
  pushed = range_pushed _ _ _ order_text c.loop-thread.thread c.loop-thread.invariant.pushed c.in_ok-push_order.ensures.bytes;
  later = omega (arith, c.loop-thread.invariant.later, c.in_ok-push_order.ensures.cause.later);
}

pub returns-in_err-push_order-clause-bytes : goal.returns-in_err-push_order-clause-bytes
unfolding orders_text
returns-in_err-push_order-clause-bytes g c =
    let p = err_from_is_err_and c.from_residual.result c.from_residual.ensures.1 in
    range_fails _ _ _ order_text c.loop-thread.thread c.args.threads c.from_residual.result p.0 p.1 (omega (arith, c.loop-thread-test.true)) c.loop-thread.invariant.pushed c.in_err-push_order.ensures.bytes

pub returns-clause-bytes : goal.returns-clause-bytes
unfolding orders_text
returns-clause-bytes g c =
    let all : c.loop-thread.thread ≡ c.args.threads = omega (arith, c.loop-thread-test.false, c.loop-thread.auto.thread-end) in
    let P : ℕ → Type 0 = λ n. Appends (g.S.Sink.seen c.args.out.now).written (g.S.Sink.seen c.loop-thread.out).written (flat_map order_text (range_with_len 0 n)) in
    subst P all c.loop-thread.invariant.pushed

use Rattle.std.proofs.Common.{arith}
use Rattle.std.proofs.lemmas.Result.{err_from_is_err_and}
use Rattle.board_run.specs.MemoryText.{rows_text, row_at}
use Rattle.outside_io.proofs.Pushing.{appends_none}
use Rattle.board_run.proofs.Appending.{range_pushed, range_fails}
use Rattle.board_run.proofs.memory.push_rows.Goals as goal

pub loop-k-init : goal.loop-k-init
unfolding rows_text
loop-k-init g c = record { pushed = λ x s st. appends_none _; later = omega arith }

pub loop-k-preserved : goal.loop-k-preserved
unfolding rows_text
loop-k-preserved g c = record {
  pushed = λ x s st. range_pushed _ _ _ (row_at s.memory c.args.base) c.loop-k.k (c.loop-k.invariant.pushed x s st) (c.in_ok-push_row.ensures.bytes x s st);
  later = omega (arith, c.loop-k.invariant.later, c.in_ok-push_row.ensures.cause.later);
}

pub returns-in_err-push_row-clause-bytes : goal.returns-in_err-push_row-clause-bytes
unfolding rows_text
returns-in_err-push_row-clause-bytes g c = λ x s st.
    let p = err_from_is_err_and c.from_residual.result c.from_residual.ensures.1 in
    range_fails _ _ _ (row_at s.memory c.args.base) c.loop-k.k c.args.count c.from_residual.result p.0 p.1 (omega (arith, c.loop-k-test.true)) (c.loop-k.invariant.pushed x s st) (c.in_err-push_row.ensures.bytes x s st)

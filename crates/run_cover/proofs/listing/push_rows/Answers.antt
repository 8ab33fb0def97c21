use Rattle.std.proofs.Common.{◌≡◌, arith}
use Rattle.std.proofs.lemmas.Result.{err_from_is_err_and}
use Rattle.outside_io.proofs.Pushing.{appends_none}
use Rattle.board_run.proofs.Appending.{range_pushed, range_fails}
use Rattle.thumb_asm.specs.Listed.{labels_in}
use Rattle.run_cover.specs.Covered.{covered}
use Rattle.run_cover.specs.Text.{rows_text, row_at}
use Rattle.run_cover.proofs.listing.push_rows.Goals as goal

pub loop-j-init : goal.loop-j-init
loop-j-init g c = record { pushed = λ x s st. appends_none _; later = omega arith }

pub loop-j-preserved : goal.loop-j-preserved
loop-j-preserved g c = record {
  pushed = λ x s st. range_pushed _ _ _ (row_at (covered s.memory c.args.cover.now) (labels_in c.args.labels.now) c.args.base c.args.count) c.loop-j.j (c.loop-j.invariant.pushed x s st) (c.in_ok-push_place.ensures.bytes x s st);
  later = omega (arith, c.loop-j.invariant.later, c.in_ok-push_place.ensures.cause.later);
}

pub returns-in_err-push_place-clause-bytes : goal.returns-in_err-push_place-clause-bytes
unfolding rows_text
returns-in_err-push_place-clause-bytes g c = λ x s st.
    let r = err_from_is_err_and c.from_residual.result c.from_residual.ensures.1 in
    range_fails _ _ _ (row_at (covered s.memory c.args.cover.now) (labels_in c.args.labels.now) c.args.base c.args.count) c.loop-j.j c.args.count c.from_residual.result r.0 r.1 (omega (arith, c.loop-j-test.true)) (c.loop-j.invariant.pushed x s st) (c.in_err-push_place.ensures.bytes x s st)

pub returns-clause-bytes : goal.returns-clause-bytes
unfolding rows_text
returns-clause-bytes g c = λ x s st.
    let all : c.loop-j.j ≡ c.args.count = omega (arith, c.loop-j.auto.j-end, c.loop-j-test.false) in
    rw all at (c.loop-j.invariant.pushed x s st)

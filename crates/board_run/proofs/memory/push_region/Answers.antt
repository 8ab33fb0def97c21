use Rattle.std.proofs.lemmas.Result.{err_from_is_err_and}
use Rattle.board_run.specs.MemoryText.{region_text, region_line, rows_text, row_count}
use Rattle.outside_io.proofs.Pushing.{pushes_more, front_wider}
use Rattle.board_run.proofs.memory.push_region.Goals as goal

pub returns-clause-bytes : goal.returns-clause-bytes
unfolding region_text
returns-clause-bytes g c = λ x s st.
    let r = c.args.region.now in
    pushes_more _ _ _ (region_line r) (rows_text s.memory r.base (row_count r)) c.push_rows.result c.in_ok-push_region_line.ensures.bytes (rw c.row_count.ensures.count at (c.push_rows.ensures.bytes x s st))

pub returns-in_err-push_region_line-clause-bytes : goal.returns-in_err-push_region_line-clause-bytes
unfolding region_text
returns-in_err-push_region_line-clause-bytes g c = λ x s st.
    let p = err_from_is_err_and c.from_residual.result c.from_residual.ensures.1 in
    let r = c.args.region.now in
    rw (p.1) (front_wider _ _ (region_line r) (rows_text s.memory r.base (row_count r)) c.in_err-push_region_line.ensures.bytes)

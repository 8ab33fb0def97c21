use Rattle.std.proofs.Common.{ℕ, ◌++◌, subst}
use Rattle.std.specs.Io.KnownBytes.{Appends}
use Rattle.std.specs.Prelude.{codes}
use Rattle.std.proofs.lemmas.Result.{err_from_is_err_and}
use Rattle.outside_io.specs.Outside.{AppendsFront, Pushes}
use Rattle.outside_io.proofs.Pushing.{pushes_more, front_more, front_wider}
use Rattle.thumb_asm.specs.Listed.{labels_in}
use Rattle.run_cover.specs.declared.totals.Totals.{Totals}
use Rattle.run_cover.specs.Covered.{covered}
use Rattle.run_cover.specs.Text.{region_text, code_line, rows_text, place_count, totals_text, region_totals}
use Rattle.run_cover.proofs.listing.push_region.Goals as goal

pub returns-clause-bytes : goal.returns-clause-bytes
unfolding region_text
returns-clause-bytes g c = λ x s st.
    let r = c.args.region.now in
    let v = covered s.memory c.args.cover.now in
    let rows = rows_text v (labels_in c.args.labels.now) r.base (place_count r) in
    let covered = codes "covered " ++ totals_text (region_totals v r) in
    let lined = (g.S.Sink.seen c.push_code_line.new.out).written in
    let pushed = (g.S.Sink.seen c.push_rows.new.out).written in
    pushes_more _ _ _ (code_line r) (rows ++ covered) c.push_covered.result c.in_ok-push_code_line.ensures.bytes
    (pushes_more _ _ _ rows covered c.push_covered.result
    (subst (λ (many : ℕ). Appends lined pushed (rows_text v (labels_in c.args.labels.now) r.base many)) c.place_count.ensures.count (c.in_ok-push_rows.ensures.bytes x s st))
    (subst (λ (t : Totals). Pushes pushed (g.S.Sink.seen c.push_covered.new.out).written (codes "covered " ++ totals_text t) c.push_covered.result) (c.region_totals.ensures.is x s st) c.push_covered.ensures.bytes))

pub returns-in_err-push_code_line-clause-bytes : goal.returns-in_err-push_code_line-clause-bytes
unfolding region_text
returns-in_err-push_code_line-clause-bytes g c = λ x s st.
    let p = err_from_is_err_and c.from_residual.result c.from_residual.ensures.1 in
    let r = c.args.region.now in
    let v = covered s.memory c.args.cover.now in
    rw (p.1) (front_wider _ _ (code_line r) (rows_text v (labels_in c.args.labels.now) r.base (place_count r) ++ (codes "covered " ++ totals_text (region_totals v r))) c.in_err-push_code_line.ensures.bytes)

pub returns-in_err-push_rows-clause-bytes : goal.returns-in_err-push_rows-clause-bytes
unfolding region_text
returns-in_err-push_rows-clause-bytes g c = λ x s st.
    let p = err_from_is_err_and c.from_residual-in_err-push_rows.result c.from_residual-in_err-push_rows.ensures.1 in
    let r = c.args.region.now in
    let v = covered s.memory c.args.cover.now in
    let rows = rows_text v (labels_in c.args.labels.now) r.base (place_count r) in
    let covered = codes "covered " ++ totals_text (region_totals v r) in
    let lined = (g.S.Sink.seen c.push_code_line.new.out).written in
    let pushed = (g.S.Sink.seen c.push_rows.new.out).written in
    rw (p.1) (front_more _ _ _ (code_line r) (rows ++ covered) c.in_ok-push_code_line.ensures.bytes
    (front_wider _ _ rows covered (subst (λ (many : ℕ). AppendsFront lined pushed (rows_text v (labels_in c.args.labels.now) r.base many)) c.place_count.ensures.count (c.in_err-push_rows.ensures.bytes x s st))))

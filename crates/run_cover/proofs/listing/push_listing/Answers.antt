use Rattle.std.proofs.Common.{subst}
use Rattle.outside_io.specs.Outside.{Pushes}
use Rattle.std.proofs.lemmas.Result.{err_from_is_err_and}
use Rattle.std.specs.Prelude.{codes, ◌++◌}
use Rattle.outside_io.proofs.Pushing.{pushes_more, front_wider}
use Rattle.thumb_asm.specs.Listed.{labels_in}
use Rattle.run_cover.specs.declared.totals.Totals.{Totals}
use Rattle.run_cover.specs.Covered.{covered}
use Rattle.run_cover.specs.Text.{listing_text, bases_text, all_totals, totals_text}
use Rattle.run_cover.proofs.listing.push_listing.Goals as goal

pub returns-clause-bytes : goal.returns-clause-bytes
unfolding listing_text
returns-clause-bytes g c = λ x s st.
    let v = covered s.memory c.args.cover.now in
    pushes_more _ _ _ (bases_text x.setup v (labels_in c.args.labels.now) 5120) (codes "in all " ++ totals_text (all_totals x.setup v 5120)) c.push_in_all.result (c.in_ok-push_bases.ensures.bytes x s st)
    (subst (λ (t : Totals). Pushes (g.S.Sink.seen c.push_bases.new.out).written (g.S.Sink.seen c.push_in_all.new.out).written (codes "in all " ++ totals_text t) c.push_in_all.result) (c.all_totals.ensures x s st) c.push_in_all.ensures.bytes)

pub returns-in_err-push_bases-clause-bytes : goal.returns-in_err-push_bases-clause-bytes
unfolding listing_text
returns-in_err-push_bases-clause-bytes g c = λ x s st.
    let p = err_from_is_err_and c.from_residual.result c.from_residual.ensures.1 in
    let v = covered s.memory c.args.cover.now in
    rw (p.1) (front_wider _ _ (bases_text x.setup v (labels_in c.args.labels.now) 5120) (codes "in all " ++ totals_text (all_totals x.setup v 5120)) (c.in_err-push_bases.ensures.bytes x s st))

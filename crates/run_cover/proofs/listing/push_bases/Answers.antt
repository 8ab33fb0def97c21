use Rattle.std.proofs.Common.{◌≡◌, arith}
use Rattle.std.proofs.lemmas.Result.{err_from_is_err_and}
use Rattle.outside_io.proofs.Pushing.{appends_none}
use Rattle.board_run.proofs.Appending.{range_pushed, range_fails}
use Rattle.thumb_asm.specs.Listed.{labels_in}
use Rattle.run_cover.specs.Covered.{covered}
use Rattle.run_cover.specs.Text.{bases_text, base_text}
use Rattle.run_cover.proofs.listing.push_bases.Goals as goal

pub loop-i-init : goal.loop-i-init
loop-i-init g c = record { pushed = λ x s st. appends_none _; later = omega arith }

pub loop-i-preserved : goal.loop-i-preserved
loop-i-preserved g c = record {
  pushed = λ x s st. range_pushed _ _ _ (base_text x.setup (covered s.memory c.args.cover.now) (labels_in c.args.labels.now)) c.loop-i.i (c.loop-i.invariant.pushed x s st) (c.in_ok-push_base.ensures.bytes x s st);
  later = omega (arith, c.loop-i.invariant.later, c.in_ok-push_base.ensures.cause.later);
}

pub returns-in_err-push_base-clause-bytes : goal.returns-in_err-push_base-clause-bytes
unfolding bases_text
returns-in_err-push_base-clause-bytes g c = λ x s st.
    let r = err_from_is_err_and c.from_residual.result c.from_residual.ensures.1 in
    range_fails _ _ _ (base_text x.setup (covered s.memory c.args.cover.now) (labels_in c.args.labels.now)) c.loop-i.i 5120 c.from_residual.result r.0 r.1 (omega (arith, c.loop-i-test.true)) (c.loop-i.invariant.pushed x s st) (c.in_err-push_base.ensures.bytes x s st)

pub returns-clause-bytes : goal.returns-clause-bytes
unfolding bases_text
returns-clause-bytes g c = λ x s st.
    let all : c.loop-i.i ≡ 5120 = omega (arith, c.loop-i.auto.i-end, c.loop-i-test.false) in
    rw all at (c.loop-i.invariant.pushed x s st)

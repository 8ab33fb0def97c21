use Rattle.std.proofs.lemmas.Result.{err_from_is_err_and}
use Rattle.outside_io.proofs.Pushing.{pushes_more, front_wider}
use Rattle.thumb_asm.specs.Listed.{labels_in}
use Rattle.run_cover.specs.Counted.{count_of}
use Rattle.run_cover.specs.Text.{insn_line, labels_text}
use Rattle.run_cover.proofs.listing.push_known.Goals as goal

pub returns-clause-bytes : goal.returns-clause-bytes
returns-clause-bytes g c = λ x s st. pushes_more _ _ _ (labels_text (labels_in c.args.labels.now) c.args.addr) (insn_line s.memory (count_of c.args.cover.now.counts c.args.addr) c.args.addr) c.push_insn.result c.in_ok-push_labels.ensures.bytes (c.push_insn.ensures.bytes x s st)

pub returns-in_err-push_labels-clause-bytes : goal.returns-in_err-push_labels-clause-bytes
returns-in_err-push_labels-clause-bytes g c = λ x s st.
    let p = err_from_is_err_and c.from_residual.result c.from_residual.ensures.1 in
    rw (p.1) (front_wider _ _ (labels_text (labels_in c.args.labels.now) c.args.addr) (insn_line s.memory (count_of c.args.cover.now.counts c.args.addr) c.args.addr) c.in_err-push_labels.ensures.bytes)

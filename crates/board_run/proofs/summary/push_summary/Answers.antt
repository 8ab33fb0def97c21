use Rattle.std.proofs.Common.{◌≡◌, ◌∙◌, ℕ, sym, ap, subst, List}
use Rattle.std.proofs.lemmas.Result.{err_from_is_err_and}
use Rattle.std.specs.Io.KnownBytes.{Appends}
use Rattle.outside_io.specs.Outside.{AppendsFront}
use Rattle.board_run.specs.Counting.{count_at}
use Rattle.board_run.specs.Counts.{counts_text}
use Rattle.board_run.specs.Text.{end_line}
use Rattle.outside_io.proofs.Pushing.{pushes_more, front_wider}
use Rattle.board_run.proofs.Going.{turns_seen}
use Rattle.board_run.proofs.summary.push_summary.Goals as goal

pub returns-clause-bytes : goal.returns-clause-bytes
returns-clause-bytes g c = λ x s st.
    let e = c.args.end in
    let is : end_line e c.turns.result c.now.result ≡ end_line e s.turn s.now =
    ap (λ (n : ℕ). end_line e n c.now.result) (c.turns.ensures ∙ sym (turns_seen _ x c.args.board.now s st)) ∙ ap (end_line e s.turn) (c.now.ensures x s st) in
    let P : List ℕ → Type 0 = λ w. Appends (g.S.Sink.seen c.args.out.now).written (g.S.Sink.seen c.push_end_line.new.out).written w in
    pushes_more _ _ _ (end_line e s.turn s.now) (counts_text (count_at c.args.counts.now)) c.push_counts.result (subst P is c.in_ok-push_end_line.ensures.bytes) c.push_counts.ensures.bytes

pub returns-in_err-push_end_line-clause-bytes : goal.returns-in_err-push_end_line-clause-bytes
returns-in_err-push_end_line-clause-bytes g c = λ x s st.
    let p = err_from_is_err_and c.from_residual.result c.from_residual.ensures.1 in
    let e = c.args.end in
    let is : end_line e c.turns.result c.now.result ≡ end_line e s.turn s.now =
    ap (λ (n : ℕ). end_line e n c.now.result) (c.turns.ensures ∙ sym (turns_seen _ x c.args.board.now s st)) ∙ ap (end_line e s.turn) (c.now.ensures x s st) in
    let P : List ℕ → Type 0 = λ w. AppendsFront (g.S.Sink.seen c.args.out.now).written (g.S.Sink.seen c.push_end_line.new.out).written w in
    rw (p.1) (front_wider _ _ (end_line e s.turn s.now) (counts_text (count_at c.args.counts.now)) (subst P is c.in_err-push_end_line.ensures.bytes))

use Rattle.std.proofs.Common.{◌≡◌, ◌+◌, ◌∙◌, IfSome, Ok, Err, ap, sym, arith, length, List, ℕ}
use Rattle.std.proofs.lemmas.Option.{IfSome_then}
use Rattle.std.proofs.lemmas.Result.{IfErr-weaker, IfOk-weaker}
use Rattle.text_lines.specs.Text.{lines_of}
use Rattle.run_question.specs.Drafts.{drafted, stated}
use Rattle.run_question.specs.Questions.{question_data}
use Rattle.run_question.specs.Reading.{Reading, nothing_read, with_lines}
use Rattle.run_question.proofs.Walk.{no_line, goes_on, stops_at}
use Rattle.run_question.proofs.reading.lines_read.Goals as goal

pub lines-init : goal.lines-init
lines-init c = record {
  same = sym (ap (λ (d : Reading). with_lines d 1 (lines_of c.of-lines.result.rest.now)) c.empty_draft-draft.ensures
      ∙ ap (λ (t : List ℕ). with_lines nothing_read 1 (lines_of t)) c.of-lines.ensures);
  few = omega (arith, ap length c.of-lines.ensures);
}

pub lines-preserved : goal.lines-preserved
lines-preserved c = record {
  same = c.lines.invariant.same ∙ goes_on (drafted c.lines.draft) (drafted c.in-Ok.next) (c.lines.number + 1) c.in-Some.line.now (lines_of c.next.new.self.rest.now) (lines_of c.lines.lines.rest.now) c.in-Some.ensures.line c.in-Ok.ensures.ok;
  few = omega (arith, c.lines.invariant.few, c.in-Some.ensures.shorter);
}

pub returns-clause-ok : goal.returns-clause-ok
returns-clause-ok c =
    let whole = c.lines.invariant.same ∙ ap (with_lines (drafted c.lines.draft) (c.lines.number + 1)) c.in_default.ensures.end ∙ no_line (drafted c.lines.draft) (c.lines.number + 1) in
    IfOk-weaker c.ended.result _ (λ q. with_lines nothing_read 1 (lines_of c.args.bytes.now) ≡ Ok (question_data q)) (λ q h. whole ∙ h) c.ended.ensures.ok

pub returns-clause-refused : goal.returns-clause-refused
returns-clause-refused c =
    let whole = c.lines.invariant.same ∙ ap (with_lines (drafted c.lines.draft) (c.lines.number + 1)) c.in_default.ensures.end ∙ no_line (drafted c.lines.draft) (c.lines.number + 1) in
    IfErr-weaker c.ended.result _ (λ e. IfSome (stated e) (λ t. with_lines nothing_read 1 (lines_of c.args.bytes.now) ≡ Err t)) (λ e h. IfSome_then (stated e) h (λ t k. whole ∙ k)) c.ended.ensures.err

pub returns-in-Err-clause-refused : goal.returns-in-Err-clause-refused
returns-in-Err-clause-refused c =
    stops_at (drafted c.lines.draft) (c.lines.number + 1) c.in-Some.line.now (lines_of c.next.new.self.rest.now) (lines_of c.lines.lines.rest.now) (with_lines nothing_read 1 (lines_of c.args.bytes.now)) c.in-Err.fault c.lines.invariant.same c.in-Some.ensures.line c.in-Err.ensures.err

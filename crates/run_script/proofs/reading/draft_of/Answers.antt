use Rattle.std.proofs.Common.{◌+◌, ◌∙◌, ap, sym, arith, length, List, ℕ}
use Rattle.text_lines.specs.Text.{lines_of}
use Rattle.run_script.specs.Drafts.{drafted}
use Rattle.run_script.specs.Scripts.{Reading, script_or_fault, with_lines}
use Rattle.run_script.proofs.Walk.{no_line, goes_on, stops_at}
use Rattle.run_script.proofs.reading.draft_of.Goals as goal

pub lines-init : goal.lines-init
lines-init c = record {
  same = sym (ap (λ (d : Reading). with_lines d 1 (lines_of c.of-lines.result.rest.now)) c.empty_draft-draft.ensures
      ∙ ap (λ (t : List ℕ). script_or_fault t) c.of-lines.ensures);
  few = omega (arith, ap length c.of-lines.ensures);
}

pub lines-preserved : goal.lines-preserved
lines-preserved c = record {
  same = c.lines.invariant.same ∙ goes_on (drafted c.lines.draft) (drafted c.read_line.new.draft) (c.lines.number + 1) c.in-Some.line.now (lines_of c.next.new.self.rest.now) (lines_of c.lines.lines.rest.now) c.in-Some.ensures.line c.in-Ok.ensures.ok;
  few = omega (arith, c.lines.invariant.few, c.in-Some.ensures.shorter);
}

pub returns-clause-ok : goal.returns-clause-ok
returns-clause-ok c = c.lines.invariant.same ∙ ap (with_lines (drafted c.lines.draft) (c.lines.number + 1)) c.in_default.ensures.end ∙ no_line (drafted c.lines.draft) (c.lines.number + 1)

pub returns-in-Err-clause-refused : goal.returns-in-Err-clause-refused
returns-in-Err-clause-refused c =
    stops_at (drafted c.lines.draft) (c.lines.number + 1) c.in-Some.line.now (lines_of c.next.new.self.rest.now) (lines_of c.lines.lines.rest.now) (script_or_fault c.args.bytes.now) c.in-Err.fault c.lines.invariant.same c.in-Some.ensures.line c.in-Err.ensures.err

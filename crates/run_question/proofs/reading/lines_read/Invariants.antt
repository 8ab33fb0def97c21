use Rattle.std.proofs.Common.{◌≡◌, ◌+◌, ◌≤◌, length}
use Rattle.text_lines.specs.Text.{lines_of}
use Rattle.run_question.specs.Drafts.{drafted}
use Rattle.run_question.specs.Reading.{nothing_read, with_lines}
use Rattle.run_question.proofs.reading.lines_read.Given as goal

abbrev pub invariant-lines : goal.invariant-lines
invariant-lines l = record {
  same : with_lines nothing_read 1 (lines_of l.bytes) ≡ with_lines (drafted l.draft) (l.number + 1) (lines_of l.lines.rest.now);
  few : l.number + length l.lines.rest.now ≤ length l.bytes;
}

abbrev pub decreases-lines : goal.decreases-lines
decreases-lines l = length l.lines.rest.now

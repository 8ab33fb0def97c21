use Rattle.std.proofs.Common.{◌+◌, ◌≤◌, length}
use Rattle.text_lines.specs.Text.{lines_of}
use Rattle.thumb_asm.specs.Meaning.{Names}
use Rattle.thumb_asm.specs.Passes.{given_in, Indexes}
use Rattle.thumb_asm.proofs.Passing.{Surveyed}
use Rattle.thumb_asm.proofs.passes.place_lines.Given as goal

abbrev pub invariant-lines : goal.invariant-lines
invariant-lines l = record {
  earlier : Names;
  same : Indexes l.labels earlier;
  so_far : Surveyed (given_in l.symbols) l.base (lines_of l.text) (lines_of l.lines.rest.now) earlier l.used l.number;
  few : l.number + length l.lines.rest.now ≤ length l.text;
}

abbrev pub decreases-lines : goal.decreases-lines
decreases-lines l = length l.lines.rest.now

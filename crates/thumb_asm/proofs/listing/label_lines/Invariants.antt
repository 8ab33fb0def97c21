use Rattle.std.proofs.Common.{◌≡◌, ◌++◌, length}
use Rattle.text_lines.specs.Text.{lines_of}
use Rattle.thumb_asm.specs.Listed.{HaveRoom, labels_in, labels_of, lines_left, placed}
use Rattle.thumb_asm.proofs.listing.label_lines.Given as goal

abbrev pub invariant-lines : goal.invariant-lines
invariant-lines l = record {
  found : labels_of (placed l.base (lines_of l.text)) ≡ labels_in l.labels.items ++ labels_of (lines_left l.lines);
  room : HaveRoom l.lines;
}

abbrev pub decreases-lines : goal.decreases-lines
decreases-lines l = length l.lines.lines.rest.now

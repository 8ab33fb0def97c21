use Rattle.std.proofs.Common.{◌≡◌, ◌++◌, length}
use Rattle.text_lines.specs.Text.{lines_of}
use Rattle.thumb_asm.specs.Listed.{HaveRoom, insn_lines, lines_left, placed}
use Rattle.thumb_asm.proofs.listing.instruction_lines.Given as goal

abbrev pub invariant-lines : goal.invariant-lines
invariant-lines l = record {
  found : insn_lines (placed l.base (lines_of l.text)) ≡ l.found.items ++ insn_lines (lines_left l.lines);
  room : HaveRoom l.lines;
}

abbrev pub decreases-lines : goal.decreases-lines
decreases-lines l = length l.lines.lines.rest.now

use Rattle.std.proofs.Common.{◌≡◌, ◌+◌, ◌≤◌, length}
use Rattle.text_lines.specs.Text.{lines_of}
use Rattle.debug_core.specs.Reading.{commands_or_fault, with_lines}
use Rattle.debug_core.proofs.commands.commands_of.Given as goal

abbrev pub invariant-lines : goal.invariant-lines
invariant-lines l = record {
  same : commands_or_fault l.bytes ≡ with_lines l.commands.items (l.number + 1) (lines_of l.lines.rest.now);
  few : l.number + length l.lines.rest.now ≤ length l.bytes;
}

abbrev pub decreases-lines : goal.decreases-lines
decreases-lines l = length l.lines.rest.now

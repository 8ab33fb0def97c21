use Rattle.std.proofs.Common.{◌+◌, ◌≤◌, length}
use Rattle.text_lines.specs.Text.{lines_of}
use Rattle.thumb_asm.specs.Passes.{env_in}
use Rattle.thumb_asm.proofs.Passing.{Emitting}
use Rattle.thumb_asm.proofs.passes.emit.Given as goal

abbrev pub invariant-lines : goal.invariant-lines
invariant-lines l = record {
  so_far : Emitting (env_in l.names.labels.now l.names.symbols.now) l.base (lines_of l.text) (lines_of l.lines.rest.now) l.out.items l.number;
  few : l.number + length l.lines.rest.now ≤ length l.text;
}

abbrev pub decreases-lines : goal.decreases-lines
decreases-lines l = length l.lines.rest.now

use Rattle.std.proofs.Common.{◌≡◌, ◌≤◌, take}
use Rattle.std.specs.Io.KnownBytes.{Appends}
use Rattle.board_model.specs.Run.{at_turn}
use Rattle.trace_text.specs.Fit.{AreFit}
use Rattle.trace_text.specs.Lines.{notes_text}
use Rattle.board_run.proofs.pushing.push_notes.Given as goal

abbrev pub invariant-loop-note : goal.invariant-loop-note
invariant-loop-note g l = record {
  number : l.lines.number ≡ l.turn;
  pushed : Appends (g.S.Sink.seen l.fn.out).written (g.S.Sink.seen l.out).written (notes_text (at_turn l.lines.number (take l.note-index l.notes)));
  fit : AreFit (at_turn l.turn (take l.note-index l.notes));
  later : (g.S.Sink.seen l.fn.out).faults ≤ (g.S.Sink.seen l.out).faults;
}

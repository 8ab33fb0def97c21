use Rattle.std.proofs.Common.{◌≤◌, ◌≡◌, take}
use Rattle.std.specs.Io.KnownBytes.{Appends}
use Rattle.run_lanes.specs.Timeline.{notes_text, offers_at_end}
use Rattle.run_lanes.proofs.pushing.push_notes.Given as goal

abbrev pub invariant-loop-note : goal.invariant-loop-note
invariant-loop-note g l = record {
  pushed : Appends (g.S.Sink.seen l.fn.out).written (g.S.Sink.seen l.out).written (notes_text l.fn.offers l.turn (take l.note-index l.notes));
  offers : l.offers ≡ offers_at_end l.fn.offers (take l.note-index l.notes);
  later : (g.S.Sink.seen l.fn.out).faults ≤ (g.S.Sink.seen l.out).faults;
}

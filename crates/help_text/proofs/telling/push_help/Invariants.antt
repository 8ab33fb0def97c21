use Rattle.std.proofs.Common.{◌≤◌, take}
use Rattle.std.specs.List.{flat_map}
use Rattle.std.specs.Io.KnownBytes.{Appends}
use Rattle.help_text.proofs.telling.push_help.Given as goal

abbrev pub invariant-loop-part : goal.invariant-loop-part
invariant-loop-part g l = record {
  pushed : Appends (g.S.Sink.seen l.fn.out).written (g.S.Sink.seen l.out).written (flat_map (λ part. flat_map (λ line. line.now) part.now) (take l.part-index l.part-items));
  later : (g.S.Sink.seen l.fn.out).faults ≤ (g.S.Sink.seen l.out).faults;
}

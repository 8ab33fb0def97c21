use Rattle.std.proofs.Common.{◌≤◌, take}
use Rattle.std.specs.Io.KnownBytes.{Appends}
use Rattle.std.specs.List.{flat_map}
use Rattle.thumb_asm.specs.Listed.{label_of}
use Rattle.run_cover.specs.Text.{label_at}
use Rattle.run_cover.proofs.listing.push_labels.Given as goal

abbrev pub invariant-loop-label : goal.invariant-loop-label
invariant-loop-label g l = record {
  pushed : Appends (g.S.Sink.seen l.fn.out).written (g.S.Sink.seen l.out).written (flat_map (λ x. label_at l.addr (label_of x)) (take l.label-index l.labels));
  later : (g.S.Sink.seen l.fn.out).faults ≤ (g.S.Sink.seen l.out).faults;
}

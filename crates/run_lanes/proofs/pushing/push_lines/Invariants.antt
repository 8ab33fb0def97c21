use Rattle.std.proofs.Common.{◌≤◌, take}
use Rattle.std.specs.Prelude.{string_bytes}
use Rattle.std.specs.List.{flat_map}
use Rattle.std.specs.Io.KnownBytes.{Appends}
use Rattle.run_lanes.proofs.pushing.push_lines.Given as goal

abbrev pub invariant-loop-line : goal.invariant-loop-line
invariant-loop-line g l = record {
  pushed : Appends (g.S.Sink.seen l.fn.out).written (g.S.Sink.seen l.out).written (flat_map string_bytes (take l.line-index l.lines));
  later : (g.S.Sink.seen l.fn.out).faults ≤ (g.S.Sink.seen l.out).faults;
}

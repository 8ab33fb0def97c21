use Rattle.std.proofs.Common.{◌≤◌, drop}
use Rattle.std.specs.List.{flat_map}
use Rattle.run_script.specs.Events.{script_data}
use Rattle.run_script.specs.Texts.{event_line}
use Rattle.explore_core.proofs.Leaving.{IsLeft}
use Rattle.explore_core.proofs.answer.push_events.Given as goal

abbrev pub invariant-loop-place : goal.invariant-loop-place
invariant-loop-place g l =
    let events = (script_data l.script).events in
    record {
      left : IsLeft (flat_map event_line events) (flat_map event_line (drop l.place events)) (g.S.Sink.seen l.fn.out).written (g.S.Sink.seen l.out).written;
      later : (g.S.Sink.seen l.fn.out).faults ≤ (g.S.Sink.seen l.out).faults;
    }

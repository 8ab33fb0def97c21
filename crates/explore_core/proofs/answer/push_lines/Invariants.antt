use Rattle.std.proofs.Common.{◌≤◌, drop, map}
use Rattle.run_question.specs.Questions.{arrival_data, stated_data}
use Rattle.explore_core.specs.Telling.{answer_lines}
use Rattle.explore_core.proofs.Leaving.{IsLeft}
use Rattle.explore_core.proofs.answer.push_lines.Given as goal

abbrev pub invariant-loop-i : goal.invariant-loop-i
invariant-loop-i g l =
    let arrivals = map arrival_data l.arrivals in
    record {
      left : IsLeft (answer_lines arrivals (map stated_data l.properties) l.answers) (answer_lines arrivals (map stated_data (drop l.i l.properties)) (drop l.i l.answers)) (g.S.Sink.seen l.fn.out).written (g.S.Sink.seen l.out).written;
      later : (g.S.Sink.seen l.fn.out).faults ≤ (g.S.Sink.seen l.out).faults;
    }

use Rattle.std.proofs.Common.{◌≤◌, drop, map}
use Rattle.std.specs.List.{All}
use Rattle.run_question.specs.Questions.{arrival_data}
use Rattle.explore_core.specs.Answers.{schedule_words}
use Rattle.explore_core.specs.Fine.{IsFineArrival}
use Rattle.explore_core.specs.Ways.{schedule_by, schedule_in}
use Rattle.explore_core.proofs.Leaving.{IsLeft}
use Rattle.explore_core.proofs.answer.push_ways.Given as goal

abbrev pub invariant-loop-place : goal.invariant-loop-place
invariant-loop-place g l =
    let all = map arrival_data l.arrivals in
    let now = map arrival_data (drop l.place l.arrivals) in
    record {
      left : IsLeft (schedule_words all (schedule_in all l.ways)) (schedule_words now (schedule_by l.place now l.ways)) (g.S.Sink.seen l.fn.out).written (g.S.Sink.seen l.out).written;
      fine : All IsFineArrival now;
      later : (g.S.Sink.seen l.fn.out).faults ≤ (g.S.Sink.seen l.out).faults;
    }

use Rattle.std.proofs.Common.{◌≡◌, ◌*◌, ◌<◌, drop, map}
use Rattle.std.specs.List.{All}
use Rattle.run_question.specs.Questions.{arrival_data}
use Rattle.run_question.specs.Reading.{schedule_count}
use Rattle.explore_core.specs.Fine.{IsFineArrival}
use Rattle.explore_core.proofs.answer.how_many.Given as goal

abbrev pub invariant-loop-arrival : goal.invariant-loop-arrival
invariant-loop-arrival l = record {
  whole : schedule_count (map arrival_data l.arrivals) ≡ l.count * schedule_count (map arrival_data (drop l.arrival-index l.arrivals));
  fine : All IsFineArrival (map arrival_data (drop l.arrival-index l.arrivals));
  some : 0 < l.count;
}

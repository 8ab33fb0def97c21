use Rattle.std.proofs.Common.{◌≡◌, ◌*◌, drop, map}
use Rattle.run_question.specs.Drafts.{capped}
use Rattle.run_question.specs.Questions.{arrival_data}
use Rattle.run_question.specs.Reading.{schedule_count}
use Rattle.run_question.proofs.schedules.are_few.Given as goal

abbrev pub invariant-loop-arrival : goal.invariant-loop-arrival
invariant-loop-arrival l = capped 1000000000000000000 (schedule_count (map arrival_data l.arrivals)) ≡ capped 1000000000000000000 (l.count * schedule_count (map arrival_data (drop l.arrival-index l.arrivals)))

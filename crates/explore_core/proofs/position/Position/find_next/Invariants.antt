use Rattle.std.proofs.Common.{length, ◌-◌, map}
use Rattle.run_question.specs.Questions.{arrival_data}
use Rattle.explore_core.proofs.Passed.{IsPassedOn}
use Rattle.explore_core.proofs.position.Position.find_next.Given as goal

abbrev pub invariant-places : goal.invariant-places
invariant-places l = IsPassedOn (map arrival_data l.arrivals) l.turn l.fn.self l.self

abbrev pub decreases-places : goal.decreases-places
decreases-places l = length l.arrivals - l.self.next

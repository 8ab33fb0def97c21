use Rattle.std.proofs.Common.{◌≡◌, ◌+◌, ◌≤◌, length, map, sum_by, take}
use Rattle.run_script.specs.Events.{script_data}
use Rattle.run_question.specs.Questions.{Arrival, arrival_data}
use Rattle.explore_core.specs.Refusals.{most_of_turn, turns_listed, turns_offered}
use Rattle.explore_core.proofs.refusing.most_together.Given as goal

abbrev pub invariant-loop-arrival : goal.invariant-loop-arrival
invariant-loop-arrival l = record {
  sum : l.most ≡ most_of_turn (turns_listed (script_data l.script).events) + sum_by (λ (a : Arrival). most_of_turn (turns_offered a)) (take l.arrival-index (map arrival_data l.arrivals));
  few : l.most ≤ 65536 + sum_by (λ (a : Arrival). length a.offers) (take l.arrival-index (map arrival_data l.arrivals));
}

use Rattle.std.proofs.Common.{◌≤◌, List, arith, length, map, subst, sum_by, sym}
use Rattle.run_question.specs.declared.question.Arrival.{Arrival}
use Rattle.run_question.specs.Questions.{arrival_data, question_data}
use Rattle.explore_core.specs.Schedules.{events_of_schedule}
use Rattle.explore_core.specs.Ways.{schedule_in}
use Rattle.explore_core.proofs.Telling.{schedule_long}
use Rattle.explore_core.proofs.answer.push_first.Goals as goal

pub lay_ways-requires-clause-room : goal.lay_ways-requires-clause-room
lay_ways-requires-clause-room g c =
    let most = sum_by (λ a. length a.offers) (question_data c.args.given.now.question).arrivals in
    let long = schedule_long (question_data c.args.given.now.question).arrivals 0 c.in-Some.ways in
    let here = subst (λ (xs : List Arrival). length (events_of_schedule (schedule_in (map arrival_data xs) c.in-Some.ways)) ≤ most) (sym c.deref.ensures.value) long in
    omega (arith, here, c.requires.room)

use Rattle.std.proofs.Common.{◌∙◌, ◌+◌, length, ap, arith}
use Rattle.run_script.specs.Events.{script_data}
use Rattle.run_question.specs.Questions.{Arrival, arrival_data}
use Rattle.explore_core.specs.Refusals.{most_of_turn, turns_listed, turns_offered}
use Rattle.explore_core.proofs.Turns.{sum_fits, sum_of_all, sum_on}
use Rattle.explore_core.proofs.refusing.most_together.Goals as goal

pub overflow_add-most : goal.overflow_add-most
overflow_add-most c =
    let i = c.loop-arrival in
    omega (arith, i.invariant.few, c.most_offered-most.ensures.few, c.requires.few, sum_fits arrival_data (λ (a : Arrival). length a.offers) c.args.arrivals.now i.arrival-index c.arrival-item.result c.loop-arrival-test.true c.arrival-item.is)

pub loop-arrival-preserved : goal.loop-arrival-preserved
loop-arrival-preserved c =
    let i = c.loop-arrival in
    record {
      sum = omega (arith, i.invariant.sum, c.most_offered-most.ensures.most, sum_on arrival_data (λ (a : Arrival). most_of_turn (turns_offered a)) c.args.arrivals.now i.arrival-index c.arrival-item.result c.loop-arrival-test.true c.arrival-item.is);
      few = omega (arith, i.invariant.few, c.most_offered-most.ensures.few, sum_on arrival_data (λ (a : Arrival). length a.offers) c.args.arrivals.now i.arrival-index c.arrival-item.result c.loop-arrival-test.true c.arrival-item.is);
    }

pub returns : goal.returns
returns c =
    c.loop-arrival.invariant.sum
    ∙ ap (λ n. most_of_turn (turns_listed (script_data c.args.script.now).events) + n) (sum_of_all arrival_data (λ (a : Arrival). most_of_turn (turns_offered a)) c.args.arrivals.now c.loop-arrival.arrival-index c.loop-arrival-test.false)

use Rattle.std.proofs.Common.{◌∙◌, ◌+◌, length, ap, arith}
use Rattle.std.proofs.lemmas.List.{length-map}
use Rattle.run_script.specs.Events.{script_data}
use Rattle.run_question.specs.Questions.{Arrival, arrival_data, offer_data}
use Rattle.explore_core.proofs.Turns.{sum_fits, sum_of_all, sum_on}
use Rattle.explore_core.proofs.refusing.all_together.Goals as goal

pub overflow_add-count : goal.overflow_add-count
overflow_add-count c =
    let i = c.loop-arrival in
    let items = c.arrival-item.result.offers.items in
    omega (
      arith,
      i.invariant,
      c.len-count.ensures,
      c.arrival-item.result.offers.ok.0,
      length-map items offer_data,
      c.requires.few,
      c.facts.ensures.script.most,
      sum_fits arrival_data (λ (a : Arrival). length a.offers) c.args.arrivals.now i.arrival-index c.arrival-item.result c.loop-arrival-test.true c.arrival-item.is,
    )

pub loop-arrival-preserved : goal.loop-arrival-preserved
loop-arrival-preserved c =
    let i = c.loop-arrival in
    let items = c.arrival-item.result.offers.items in
    omega (
      arith,
      i.invariant,
      c.len-count.ensures,
      c.arrival-item.result.offers.ok.0,
      length-map items offer_data,
      sum_on arrival_data (λ (a : Arrival). length a.offers) c.args.arrivals.now i.arrival-index c.arrival-item.result c.loop-arrival-test.true c.arrival-item.is,
    )

pub returns : goal.returns
returns c =
    c.loop-arrival.invariant
    ∙ ap (λ n. length (script_data c.args.script.now).events + n) (sum_of_all arrival_data (λ (a : Arrival). length a.offers) c.args.arrivals.now c.loop-arrival.arrival-index c.loop-arrival-test.false)

use Rattle.std.proofs.Common.{◌≤◌, arith, length, map}
use Rattle.run_question.specs.Questions.{arrival_data}
use Rattle.explore_core.proofs.Telling.{count_end, count_fits, count_more, count_some, fine_arrival, fine_arrivals, mapped_item, none_mapped, way_fits}
use Rattle.explore_core.proofs.answer.how_many.Goals as goal

pub way_count-count-requires-clause-fine : goal.way_count-count-requires-clause-fine
way_count-count-requires-clause-fine c =
    let i = c.loop-arrival in
    let all = c.args.arrivals.now in
    let e = mapped_item arrival_data all i.arrival-index c.arrival-item.result (omega (arith, c.loop-arrival-test.true)) c.arrival-item.is in
    fine_arrival _ _ _ e i.invariant.fine

pub way_count-count-requires-clause-few : goal.way_count-count-requires-clause-few
way_count-count-requires-clause-few c =
    let i = c.loop-arrival in
    let all = c.args.arrivals.now in
    let e = mapped_item arrival_data all i.arrival-index c.arrival-item.result (omega (arith, c.loop-arrival-test.true)) c.arrival-item.is in
    let fits = way_fits _ i.count _ _ _ e i.invariant.fine i.invariant.some i.invariant.whole in
    omega (arith, fits, c.requires.few)

pub overflow_mul-count : goal.overflow_mul-count
overflow_mul-count c =
    let i = c.loop-arrival in
    let all = c.args.arrivals.now in
    let e = mapped_item arrival_data all i.arrival-index c.arrival-item.result (omega (arith, c.loop-arrival-test.true)) c.arrival-item.is in
    let fits = count_fits _ i.count c.way_count-count.result _ _ _ e i.invariant.fine c.way_count-count.ensures i.invariant.whole in
    omega (arith, fits, c.requires.few)

pub loop-arrival-preserved : goal.loop-arrival-preserved
loop-arrival-preserved c =
    let i = c.loop-arrival in
    let all = c.args.arrivals.now in
    let e = mapped_item arrival_data all i.arrival-index c.arrival-item.result (omega (arith, c.loop-arrival-test.true)) c.arrival-item.is in
    record {
      whole = count_more _ i.count c.way_count-count.result _ _ _ e c.way_count-count.ensures i.invariant.whole;
      fine = fine_arrivals _ _ _ e i.invariant.fine;
      some = count_some i.count c.way_count-count.result _ _ _ e i.invariant.fine c.way_count-count.ensures i.invariant.some;
    }

pub returns : goal.returns
returns c =
    let i = c.loop-arrival in
    let all = c.args.arrivals.now in
    let end : length all ≤ i.arrival-index = omega (arith, c.loop-arrival-test.false) in
    count_end (map arrival_data all) i.count _ (none_mapped arrival_data all i.arrival-index end) i.invariant.whole

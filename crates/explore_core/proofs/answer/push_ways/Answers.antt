use Rattle.std.proofs.Common.{◌≤◌, arith, length, refl}
use Rattle.std.proofs.lemmas.Result.{err_from_is_err_and}
use Rattle.run_question.specs.Questions.{arrival_data}
use Rattle.explore_core.specs.Ways.{way_at}
use Rattle.explore_core.proofs.Leaving.{left_fails, less_left, none_left}
use Rattle.explore_core.proofs.Telling.{fine_arrival, fine_arrivals, mapped_item, none_mapped, way_more, ways_end}
use Rattle.explore_core.proofs.answer.push_ways.Goals as goal

pub push_way-requires : goal.push_way-requires
push_way-requires g c =
    let i = c.loop-place in
    let e = mapped_item arrival_data c.args.arrivals.now i.place c.index-arrivals-place.result c.loop-place-test.true c.index-arrivals-place.is in
    record { fine = fine_arrival _ _ _ e i.invariant.fine }

pub returns-in_err-push_way-clause-bytes : goal.returns-in_err-push_way-clause-bytes
returns-in_err-push_way-clause-bytes g c =
    let p = err_from_is_err_and c.from_residual.result c.from_residual.ensures.1 in
    let i = c.loop-place in
    let e = mapped_item arrival_data c.args.arrivals.now i.place c.index-arrivals-place.result c.loop-place-test.true c.index-arrivals-place.is in
    let more = way_more _ _ _ i.place c.args.ways.now (way_at c.args.ways.now i.place) e refl in
    left_fails _ _ _ _ _ _ _ c.from_residual.result p.0 p.1 i.invariant.left more c.in_err-push_way.ensures.bytes

pub loop-place-preserved : goal.loop-place-preserved
loop-place-preserved g c =
    let i = c.loop-place in
    let e = mapped_item arrival_data c.args.arrivals.now i.place c.index-arrivals-place.result c.loop-place-test.true c.index-arrivals-place.is in
    let more = way_more _ _ _ i.place c.args.ways.now (way_at c.args.ways.now i.place) e refl in
    record {
      left = less_left _ _ _ _ _ _ _ i.invariant.left more c.in_ok-push_way.ensures.bytes;
      fine = fine_arrivals _ _ _ e i.invariant.fine;
      later = omega (arith, i.invariant.later, c.in_ok-push_way.ensures.cause.later);
    }

pub returns-clause-bytes : goal.returns-clause-bytes
returns-clause-bytes g c =
    let i = c.loop-place in
    let end : length c.args.arrivals.now ≤ i.place = omega (arith, c.loop-place-test.false) in
    none_left _ _ _ _ i.invariant.left (ways_end _ i.place _ (none_mapped arrival_data c.args.arrivals.now i.place end))

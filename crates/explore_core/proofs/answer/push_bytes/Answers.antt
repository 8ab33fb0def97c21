use Rattle.std.proofs.Common.{◌≡◌, ◌≤◌, arith, length}
use Rattle.std.proofs.lemmas.Result.{err_from_is_err_and}
use Rattle.run_question.specs.Questions.{offer_data}
use Rattle.explore_core.proofs.Leaving.{left_fails, less_left, none_left}
use Rattle.explore_core.proofs.Telling.{behind_one, byte_more, bytes_end, fine_behind, fine_here, mapped_item, none_mapped, some_behind}
use Rattle.explore_core.proofs.answer.push_bytes.Goals as goal

pub nonzero_div-behind : goal.nonzero_div-behind
nonzero_div-behind g c =
    let i = c.loop-offer in
    let e = mapped_item offer_data c.args.offers.now i.offer-index c.offer-item.result (omega (arith, c.loop-offer-test.true)) c.offer-item.is in
    let fine = fine_here _ _ _ e i.invariant.fine in
    omega (arith, fine, c.len.ensures)

pub chosen_event-requires-clause-some : goal.chosen_event-requires-clause-some
chosen_event-requires-clause-some g c =
    let i = c.loop-offer in
    let e = mapped_item offer_data c.args.offers.now i.offer-index c.offer-item.result (omega (arith, c.loop-offer-test.true)) c.offer-item.is in
    fine_here _ _ _ e i.invariant.fine

pub chosen_event-requires-clause-behind : goal.chosen_event-requires-clause-behind
chosen_event-requires-clause-behind g c =
    let i = c.loop-offer in
    let e = mapped_item offer_data c.args.offers.now i.offer-index c.offer-item.result (omega (arith, c.loop-offer-test.true)) c.offer-item.is in
    let long : c.len.result ≡ length c.offer-item.result.events.items = omega (arith, c.len.ensures) in
    let behind = behind_one _ i.behind c.len.result _ _ e i.invariant.fine long i.invariant.behind in
    some_behind _ _ behind (fine_behind _ _ _ e i.invariant.fine)

pub returns-in_err-push_byte-clause-bytes : goal.returns-in_err-push_byte-clause-bytes
returns-in_err-push_byte-clause-bytes g c =
    let p = err_from_is_err_and c.from_residual.result c.from_residual.ensures.1 in
    let i = c.loop-offer in
    let e = mapped_item offer_data c.args.offers.now i.offer-index c.offer-item.result (omega (arith, c.loop-offer-test.true)) c.offer-item.is in
    let long : c.len.result ≡ length c.offer-item.result.events.items = omega (arith, c.len.ensures) in
    let behind = behind_one _ i.behind c.len.result _ _ e i.invariant.fine long i.invariant.behind in
    left_fails _ _ _ _ _ _ _ c.from_residual.result p.0 p.1 i.invariant.left (byte_more _ _ _ c.args.choice _ c.chosen_event.result e behind c.chosen_event.ensures) c.in_err-push_byte.ensures.bytes

pub loop-offer-preserved : goal.loop-offer-preserved
loop-offer-preserved g c =
    let i = c.loop-offer in
    let e = mapped_item offer_data c.args.offers.now i.offer-index c.offer-item.result (omega (arith, c.loop-offer-test.true)) c.offer-item.is in
    let long : c.len.result ≡ length c.offer-item.result.events.items = omega (arith, c.len.ensures) in
    let behind = behind_one _ i.behind c.len.result _ _ e i.invariant.fine long i.invariant.behind in
    record {
      left = less_left _ _ _ _ _ _ _ i.invariant.left (byte_more _ _ _ c.args.choice _ c.chosen_event.result e behind c.chosen_event.ensures) c.in_ok-push_byte.ensures.bytes;
      fine = fine_behind _ _ _ e i.invariant.fine;
      behind = behind;
      later = omega (arith, i.invariant.later, c.in_ok-push_byte.ensures.cause.later);
    }

pub returns-clause-bytes : goal.returns-clause-bytes
returns-clause-bytes g c =
    let i = c.loop-offer in
    let end : length c.args.offers.now ≤ i.offer-index = omega (arith, c.loop-offer-test.false) in
    none_left _ _ _ _ i.invariant.left (bytes_end _ c.args.choice (none_mapped offer_data c.args.offers.now i.offer-index end))

use Rattle.std.proofs.Common.{◌≡◌, ◌∙◌, ◌+◌, ◌/◌, true, List, [], ◌∷◌, ◌++◌, length, map, not, ap, refl, sym, subst, arith}
use Rattle.std.specs.List.{All}
use Rattle.std.proofs.lemmas.List.{drop_all}
use Rattle.run_question.specs.declared.question.Offer.{Offer}
use Rattle.run_question.specs.Questions.{offer_data}
use Rattle.run_question.specs.Reading.{choice_count}
use Rattle.run_script.specs.Events.{script_data}
use Rattle.run_script.specs.Laying.{HasRoom}
use Rattle.run_script.specs.Scripts.{Listed}
use Rattle.board_model.specs.Laid.{is_script, postponed}
use Rattle.explore_core.specs.Fine.{IsFineOffer}
use Rattle.explore_core.specs.Ways.{chosen}
use Rattle.explore_core.proofs.Chosen.{event_at, events_from, offer_at, weight_behind}
use Rattle.explore_core.proofs.Listing.{IsLaidBefore, all_laid, next_early, next_fits, next_laid, none_laid}
use Rattle.explore_core.proofs.laying.lay_arrival.Goals as goal

pub loop-offer-init : goal.loop-offer-init
loop-offer-init c =
    let same = c.deref-offer-items.ensures.value in
    let script = script_data c.args.laid.now in
    let all : List Offer → List Listed = λ xs. postponed c.args.way.turn (chosen (map offer_data xs) c.args.way.choice) in
    record {
      fine = subst (λ (xs : List Offer). All IsFineOffer (map offer_data xs)) (sym same) c.requires.fine.offers;
      weight = c.choice_count-weight.ensures.count ∙ ap (λ (xs : List Offer). choice_count (map offer_data xs)) (c.deref.ensures.value ∙ sym same);
      laid = none_laid script script (all c.deref-offer-items.result.now) refl (subst (λ (xs : List Offer). is_script (script.events ++ all xs) ≡ true) (sym same) c.requires.script);
      place = subst (λ (xs : List Offer). HasRoom c.args.laid.now (length script.events + length (all xs))) (sym same) c.requires.room;
      room = λ n room. room;
    }

pub nonzero_div-weight : goal.nonzero_div-weight
nonzero_div-weight c =
    let here = offer_at c.deref-offer-items.result.now c.loop-offer.offer-index c.offer-item.result c.loop-offer.invariant.fine c.loop-offer-test.true c.offer-item.is in
    let long = c.len.ensures ∙ c.offer-item.result.events.ok.0 in
    let some = here.fine.some in
    omega (arith, long, some)

pub chosen_event-event-requires-clause-some : goal.chosen_event-event-requires-clause-some
chosen_event-event-requires-clause-some c =
    let here = offer_at c.deref-offer-items.result.now c.loop-offer.offer-index c.offer-item.result c.loop-offer.invariant.fine c.loop-offer-test.true c.offer-item.is in
    here.fine.some

pub chosen_event-event-requires-clause-behind : goal.chosen_event-event-requires-clause-behind
chosen_event-event-requires-clause-behind c =
    let here = offer_at c.deref-offer-items.result.now c.loop-offer.offer-index c.offer-item.result c.loop-offer.invariant.fine c.loop-offer-test.true c.offer-item.is in
    let long = c.len.ensures ∙ c.offer-item.result.events.ok.0 in
    let weight = weight_behind c.deref-offer-items.result.now c.loop-offer.offer-index c.offer-item.result c.loop-offer.weight c.len.result here c.loop-offer.invariant.weight long in
    let some = here.some in
    omega (arith, weight, some)

pub overflow_add-way : goal.overflow_add-way
overflow_add-way c =
    let here = offer_at c.deref-offer-items.result.now c.loop-offer.offer-index c.offer-item.result c.loop-offer.invariant.fine c.loop-offer-test.true c.offer-item.is in
    let long = c.len.ensures ∙ c.offer-item.result.events.ok.0 in
    let weight = weight_behind c.deref-offer-items.result.now c.loop-offer.offer-index c.offer-item.result c.loop-offer.weight c.len.result here c.loop-offer.invariant.weight long in
    let event = event_at c.deref-offer-items.result.now c.args.way.turn c.args.way.choice c.loop-offer.offer-index c.offer-item.result (c.loop-offer.weight / c.len.result) c.chosen_event-event.result
    here weight c.chosen_event-event.ensures in
    let behind = events_from c.deref-offer-items.result.now c.args.way.turn c.args.way.choice (c.loop-offer.offer-index + 1) in
    let all = events_from c.deref-offer-items.result.now c.args.way.turn c.args.way.choice 0 in
    let laid = subst (λ (l : List Listed). IsLaidBefore (script_data c.loop-offer.laid) (script_data c.args.laid.now) l all) event.events c.loop-offer.invariant.laid in
    let early = next_early (script_data c.loop-offer.laid) (script_data c.args.laid.now) (c.args.way.turn + c.offer-item.result.turn) c.chosen_event-event.result behind all laid in
    omega (arith, early)

pub add-requires-clause-line : goal.add-requires-clause-line
add-requires-clause-line c =
    let here = offer_at c.deref-offer-items.result.now c.loop-offer.offer-index c.offer-item.result c.loop-offer.invariant.fine c.loop-offer-test.true c.offer-item.is in
    let long = c.len.ensures ∙ c.offer-item.result.events.ok.0 in
    let weight = weight_behind c.deref-offer-items.result.now c.loop-offer.offer-index c.offer-item.result c.loop-offer.weight c.len.result here c.loop-offer.invariant.weight long in
    let event = event_at c.deref-offer-items.result.now c.args.way.turn c.args.way.choice c.loop-offer.offer-index c.offer-item.result (c.loop-offer.weight / c.len.result) c.chosen_event-event.result
    here weight c.chosen_event-event.ensures in
    event.known.0

pub add-requires-clause-device : goal.add-requires-clause-device
add-requires-clause-device c =
    let here = offer_at c.deref-offer-items.result.now c.loop-offer.offer-index c.offer-item.result c.loop-offer.invariant.fine c.loop-offer-test.true c.offer-item.is in
    let long = c.len.ensures ∙ c.offer-item.result.events.ok.0 in
    let weight = weight_behind c.deref-offer-items.result.now c.loop-offer.offer-index c.offer-item.result c.loop-offer.weight c.len.result here c.loop-offer.invariant.weight long in
    let event = event_at c.deref-offer-items.result.now c.args.way.turn c.args.way.choice c.loop-offer.offer-index c.offer-item.result (c.loop-offer.weight / c.len.result) c.chosen_event-event.result
    here weight c.chosen_event-event.ensures in
    event.known.1

pub add-requires-clause-room : goal.add-requires-clause-room
add-requires-clause-room c =
    let here = offer_at c.deref-offer-items.result.now c.loop-offer.offer-index c.offer-item.result c.loop-offer.invariant.fine c.loop-offer-test.true c.offer-item.is in
    let long = c.len.ensures ∙ c.offer-item.result.events.ok.0 in
    let weight = weight_behind c.deref-offer-items.result.now c.loop-offer.offer-index c.offer-item.result c.loop-offer.weight c.len.result here c.loop-offer.invariant.weight long in
    let event = event_at c.deref-offer-items.result.now c.args.way.turn c.args.way.choice c.loop-offer.offer-index c.offer-item.result (c.loop-offer.weight / c.len.result) c.chosen_event-event.result
    here weight c.chosen_event-event.ensures in
    let behind = events_from c.deref-offer-items.result.now c.args.way.turn c.args.way.choice (c.loop-offer.offer-index + 1) in
    let placed : HasRoom c.loop-offer.laid (length (script_data c.loop-offer.laid).events + length ((c.args.way.turn + c.offer-item.result.turn, c.chosen_event-event.result) ∷ behind)) =
    subst (λ (l : List Listed). HasRoom c.loop-offer.laid (length (script_data c.loop-offer.laid).events + length l)) event.events c.loop-offer.invariant.place in
    omega (arith, placed)

pub loop-offer-preserved : goal.loop-offer-preserved
loop-offer-preserved c =
    let here = offer_at c.deref-offer-items.result.now c.loop-offer.offer-index c.offer-item.result c.loop-offer.invariant.fine c.loop-offer-test.true c.offer-item.is in
    let long = c.len.ensures ∙ c.offer-item.result.events.ok.0 in
    let weight = weight_behind c.deref-offer-items.result.now c.loop-offer.offer-index c.offer-item.result c.loop-offer.weight c.len.result here c.loop-offer.invariant.weight long in
    let event = event_at c.deref-offer-items.result.now c.args.way.turn c.args.way.choice c.loop-offer.offer-index c.offer-item.result (c.loop-offer.weight / c.len.result) c.chosen_event-event.result
    here weight c.chosen_event-event.ensures in
    let behind = events_from c.deref-offer-items.result.now c.args.way.turn c.args.way.choice (c.loop-offer.offer-index + 1) in
    let all = events_from c.deref-offer-items.result.now c.args.way.turn c.args.way.choice 0 in
    let laid = subst (λ (l : List Listed). IsLaidBefore (script_data c.loop-offer.laid) (script_data c.args.laid.now) l all) event.events c.loop-offer.invariant.laid in
    let placed : HasRoom c.loop-offer.laid (length (script_data c.loop-offer.laid).events + length ((c.args.way.turn + c.offer-item.result.turn, c.chosen_event-event.result) ∷ behind)) =
    subst (λ (l : List Listed). HasRoom c.loop-offer.laid (length (script_data c.loop-offer.laid).events + length l)) event.events c.loop-offer.invariant.place in
    let at = c.args.way.turn + c.offer-item.result.turn in
    let old = script_data c.loop-offer.laid in
    let script = script_data c.args.laid.now in
    let free = next_fits old script at c.chosen_event-event.result behind all laid in
    let added : c.add.result ≡ true = c.add.ensures.free ∙ ap not free in
    let count = c.add.ensures.count added in
    let room : HasRoom c.add.new.self (length old.events + length ((at, c.chosen_event-event.result) ∷ behind)) = c.add.ensures.room _ placed in
    record {
      fine = c.loop-offer.invariant.fine;
      weight = weight;
      laid = next_laid (script_data c.add.new.self) old script at c.chosen_event-event.result behind all laid (c.add.ensures.list added);
      place = omega (arith, room, count);
      room = λ n had. c.add.ensures.room n (c.loop-offer.invariant.room n had);
    }

pub returns-clause-laid : goal.returns-clause-laid
returns-clause-laid c =
    let same = c.deref-offer-items.ensures.value in
    let old = script_data c.args.laid.now in
    let rest : List Offer → List Listed = λ xs. postponed c.args.way.turn (chosen (map offer_data xs) c.args.way.choice) in
    let all = rest c.deref-offer-items.result.now in
    let none = drop_all c.loop-offer.offer-index c.deref-offer-items.result.now c.loop-offer-test.false in
    let done = subst (λ (xs : List Offer). IsLaidBefore (script_data c.loop-offer.laid) old (rest xs) all) none c.loop-offer.invariant.laid in
    let whole = subst (λ (xs : List Offer). IsLaidBefore (script_data c.loop-offer.laid) old [] (rest xs)) same done in
    all_laid (script_data c.loop-offer.laid) old (rest c.args.arrival.now.offers.items) whole

pub returns-clause-room : goal.returns-clause-room
returns-clause-room c = c.loop-offer.invariant.room

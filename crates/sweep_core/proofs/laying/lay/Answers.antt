use Rattle.std.proofs.Common.{◌∙◌, sym, arith}
use Rattle.std.proofs.lemmas.Bool.{not-false, not-true}
use Rattle.std.proofs.lemmas.Option.{none-some, slice_get-get_or}
use Rattle.run_script.specs.declared.events.Event.TheVariants.{Tick}
use Rattle.run_script.specs.Events.{script_data}
use Rattle.board_model.proofs.Arrivals.{all_laid, no_place_for, none_so_far, one_more_laid}
use Rattle.sweep_core.proofs.laying.lay.Goals as goal

pub loop-place-init : goal.loop-place-init
loop-place-init c = record {
  laid = none_so_far (script_data c.become_as.new.self) (script_data c.args.script.now) (script_data c.args.arrival.now).events c.args.time c.args.script.now.facts c.become_as.ensures.same;
  room = c.become_as.ensures.room;
}

pub returns-then-not-add-clause-made : goal.returns-then-not-add-clause-made
returns-then-not-add-clause-made c =
    let arrival = (script_data c.args.arrival.now).events in
    let full = not-false _ (sym c.add.ensures.free ∙ c.if-not-add.true) in
    sym (no_place_for (script_data c.loop-place.laid) (script_data c.args.script.now) arrival c.args.time c.loop-place.place (c.in-Some.turn, c.in-Some.event) c.loop-place.invariant.laid c.loop-place.laid.facts
    c.args.script.now.facts (omega (arith, c.loop-place-test.true, c.count-place-end.ensures)) (sym c.in-Some.ensures.event) full)

pub unreachable-requires : goal.unreachable-requires
unreachable-requires c =
    let there = slice_get-get_or (script_data c.args.arrival.now).events c.loop-place.place (0, Tick) (omega (arith, c.loop-place-test.true, c.count-place-end.ensures)) in
    none-some _ (c.in-None.ensures.event ∙ there)

pub loop-place-preserved : goal.loop-place-preserved
loop-place-preserved c =
    let arrival = (script_data c.args.arrival.now).events in
    let added = c.if-not-add.false in
    let free = not-true _ (sym c.add.ensures.free ∙ added) in
    record {
      laid = one_more_laid (script_data c.add.new.self) (script_data c.loop-place.laid) (script_data c.args.script.now) arrival c.args.time c.loop-place.place (c.in-Some.turn, c.in-Some.event) c.loop-place.invariant.laid
          c.loop-place.laid.facts c.args.script.now.facts (omega (arith, c.loop-place-test.true, c.count-place-end.ensures)) (sym c.in-Some.ensures.event) free
          (record { events = c.add.ensures.events added; last = c.add.ensures.lasts added; count = c.add.ensures.count added });
      room = λ n room. c.add.ensures.room n (c.loop-place.invariant.room n room);
    }

pub returns-clause-made : goal.returns-clause-made
returns-clause-made c =
    sym (all_laid (script_data c.loop-place.laid) (script_data c.args.script.now) (script_data c.args.arrival.now).events c.args.time c.loop-place.place c.loop-place.invariant.laid
    (omega (arith, c.loop-place-test.false, c.count-place-end.ensures))).0

pub returns-clause-same : goal.returns-clause-same
returns-clause-same c = λ made.
    (all_laid (script_data c.loop-place.laid) (script_data c.args.script.now) (script_data c.args.arrival.now).events c.args.time c.loop-place.place c.loop-place.invariant.laid
    (omega (arith, c.loop-place-test.false, c.count-place-end.ensures))).1

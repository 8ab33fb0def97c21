use Rattle.std.proofs.Common.{◌∙◌, sym, arith}
use Rattle.std.proofs.lemmas.Option.{none-some, slice_get-get_or}
use Rattle.run_script.specs.declared.events.Event.TheVariants.{Tick}
use Rattle.run_script.specs.Events.{script_data}
use Rattle.sweep_core.proofs.Late.{not_late_yet, one_is_late}
use Rattle.sweep_core.proofs.laying.is_late.Goals as goal

pub unreachable-requires : goal.unreachable-requires
unreachable-requires c =
    let there = slice_get-get_or (script_data c.args.arrival.now).events c.loop-place.place (0, Tick) (omega (arith, c.loop-place-test.true, c.count-place-end.ensures)) in
    none-some _ (c.in-None.ensures.event ∙ there)

pub returns-then-limit-time : goal.returns-then-limit-time
returns-then-limit-time c =
    sym (one_is_late (script_data c.args.arrival.now).events c.args.time c.args.limit c.loop-place.place (c.in-Some.turn, c.in-Some._event) (omega (arith, c.loop-place-test.true, c.count-place-end.ensures))
    (sym c.in-Some.ensures.event) c.if-limit-time.true)

pub loop-place-preserved : goal.loop-place-preserved
loop-place-preserved c =
    not_late_yet (script_data c.args.arrival.now).events c.args.time c.args.limit c.loop-place.place (c.in-Some.turn, c.in-Some._event) c.loop-place.invariant (omega (arith, c.loop-place-test.true, c.count-place-end.ensures))
    (sym c.in-Some.ensures.event) (omega (arith, c.if-limit-time.false))

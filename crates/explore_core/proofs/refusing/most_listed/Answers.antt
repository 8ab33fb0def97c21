use Rattle.std.proofs.Common.{◌<◌, length, inl, inr, arith}
use Rattle.std.proofs.lemmas.List.{length-map}
use Rattle.run_script.specs.Events.{script_data}
use Rattle.run_script.specs.Scripts.{Listed}
use Rattle.explore_core.specs.Refusals.{turns_listed}
use Rattle.explore_core.proofs.Turns.{all_counted, counted_on, most_within, none_counted, same_within, turns_ascend}
use Rattle.explore_core.proofs.refusing.most_listed.Goals.{else-turn-last, then-turn-last}
use Rattle.explore_core.proofs.refusing.most_listed.Goals as goal

pub loop-place-init : goal.loop-place-init
loop-place-init c = none_counted (turns_listed (script_data c.args.script.now).events)

pub overflow_add-same : goal.overflow_add-same
overflow_add-same c =
    let i = c.loop-place in
    omega (arith, same_within (turns_listed (script_data c.args.script.now).events) i.place i.most i.last i.same i.invariant, c.loop-place-test.true, c.count-place-end.ensures, c.facts.ensures.script.most)

pub loop-place-preserved : goal.loop-place-preserved
loop-place-preserved c =
    let i = c.loop-place in
    let events = (script_data c.args.script.now).events in
    let lt : i.place < length (turns_listed events) = omega (arith, c.loop-place-test.true, c.count-place-end.ensures, length-map events (λ (d : Listed). d.0)) in
    counted_on (turns_listed events) i.place i.most i.last i.same c.turn_at-turn.result c.if-turn-last.same c.max-most.result i.invariant lt (turns_ascend events c.facts.ensures.script.ascending) c.turn_at-turn.ensures c.max-most.ensures
    (elim c.if-turn-last.branch [
      | then-turn-last w ↦ inl (w.if-turn-last.true, w.same-is)
      | else-turn-last w ↦ inr (w.if-turn-last.false, w.same-is)
    ])

pub returns-clause-most : goal.returns-clause-most
returns-clause-most c =
    let i = c.loop-place in
    let events = (script_data c.args.script.now).events in
    all_counted (turns_listed events) i.place i.most i.last i.same i.invariant (omega (arith, c.loop-place-test.false, c.count-place-end.ensures, length-map events (λ (d : Listed). d.0)))

pub returns-clause-few : goal.returns-clause-few
returns-clause-few c =
    let i = c.loop-place in
    let events = (script_data c.args.script.now).events in
    let long = length-map events (λ (d : Listed). d.0) in
    omega (arith, all_counted (turns_listed events) i.place i.most i.last i.same i.invariant (omega (arith, c.loop-place-test.false, c.count-place-end.ensures, long)), most_within (turns_listed events), long, c.facts.ensures.script.most)

use Rattle.std.proofs.Common.{◌∙◌, List, [], ◌∷◌, ap, cond, sym}
use Rattle.run_script.specs.declared.events.Event.{Event}
use Rattle.run_script.specs.declared.events.Event.TheVariants.{Tick}
use Rattle.run_script.specs.Events.{script_data}
use Rattle.explore_core.proofs.Periods.{found, last}
use Rattle.explore_core.proofs.answer.period.Goals as goal

pub returns-then-has_tick : goal.returns-then-has_tick
returns-then-has_tick c =
    let there = sym c.has_every.ensures ∙ c.if-not-has_every.false in
    let tick = c.has_tick.ensures ∙ ap (λ b. cond {A = List Event} b (Tick ∷ []) []) c.if-has_tick.true in
    found (script_data c.args.script.now) c.turns.from c.in-Some.turn c.facts.ensures.script there c.turns.invariant.none c.in-Some.ensures tick

pub returns : goal.returns
returns c =
    let there = sym c.has_every.ensures ∙ c.if-not-has_every.false in
    last (script_data c.args.script.now) c.turns.from c.facts.ensures.script there c.turns.invariant.none c.in_default.ensures

use Rattle.std.proofs.Common.{◌∙◌, ap, is_some}
use Rattle.run_script.specs.Events.{script_data}
use Rattle.explore_core.proofs.Periods.{has_tick, in_order}
use Rattle.explore_core.proofs.answer.has_tick.Goals as goal

pub overflow_sub-behind : goal.overflow_sub-behind
overflow_sub-behind c = in_order (script_data c.args.script.now) c.args.turn c.first_listed-first.result c.first_listed_after-behind.result c.first_listed-first.ensures c.first_listed_after-behind.ensures

pub returns : goal.returns
returns c =
    has_tick (script_data c.args.script.now) c.args.turn c.first_listed-first.result c.first_listed_after-behind.result c.is_some.result
    c.facts.ensures.script c.first_listed-first.ensures c.first_listed_after-behind.ensures (c.is_some.ensures ∙ ap is_some c.event_at.ensures.event)

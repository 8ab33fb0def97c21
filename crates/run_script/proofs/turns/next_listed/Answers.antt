use Rattle.run_script.specs.declared.events.Event.TheVariants.{Tick}
use Rattle.run_script.proofs.Picks.{IsFirst}
use Rattle.run_script.proofs.Coming.{next_listed_is, no_listed_is}
use Rattle.run_script.proofs.turns.next_listed.Goals as goal

pub returns-then-at-events : goal.returns-then-at-events
returns-then-at-events c =
    let events = c.args.script.now.events.items in
    let first : IsFirst events c.args.from c.args.at = record { sorted = c.args.script.now.facts.ascending; within = c.requires.within; before = c.requires.before; from = c.requires.from } in
    next_listed_is events c.as_slice-events.result.now c.args.from c.args.at (0, Tick) c.as_slice-events.ensures.value first c.args.script.now.facts.listed c.if-at-events.true

pub returns-else-at-events : goal.returns-else-at-events
returns-else-at-events c =
    let events = c.args.script.now.events.items in
    let first : IsFirst events c.args.from c.args.at = record { sorted = c.args.script.now.facts.ascending; within = c.requires.within; before = c.requires.before; from = c.requires.from } in
    no_listed_is events c.as_slice-events.result.now c.args.from c.args.at c.as_slice-events.ensures.value first c.if-at-events.false

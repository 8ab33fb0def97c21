use Rattle.run_script.specs.declared.events.Event.TheVariants.{Tick}
use Rattle.run_script.proofs.Picks.{IsFirst, searched_own, searched_other, searched_past}
use Rattle.run_script.proofs.turns.listed_at.Goals as goal
use Rattle.run_script.proofs.turns.listed_at.Goals.{else-at-events-via-then-at-events+else-events-at, else-at-events-via-else-at-events}

pub returns-then-events-at : goal.returns-then-events-at
returns-then-events-at c =
    let events = c.args.script.now.events.items in
    let first : IsFirst events c.args.turn c.args.first = record { sorted = c.args.script.now.facts.ascending; within = c.requires.within; before = c.requires.before; from = c.requires.from } in
    searched_own events c.as_slice-events.result.now c.args.turn c.args.first c.args.k (0, Tick) c.as_slice-events.ensures.value first c.if-at-events.true c.if-events-at.true

pub returns-else-at-events : goal.returns-else-at-events
returns-else-at-events c =
    let events = c.args.script.now.events.items in
    let first : IsFirst events c.args.turn c.args.first = record { sorted = c.args.script.now.facts.ascending; within = c.requires.within; before = c.requires.before; from = c.requires.from } in
    elim c.else-at-events.branch [
      | else-at-events-via-then-at-events+else-events-at w ↦ searched_other events c.as_slice-events.result.now c.args.turn c.args.first c.args.k (0, Tick) c.as_slice-events.ensures.value first w.if-at-events.true w.if-events-at.false
      | else-at-events-via-else-at-events w ↦ searched_past events c.as_slice-events.result.now c.args.turn c.args.first c.args.k c.as_slice-events.ensures.value first w.if-at-events.false
    ]

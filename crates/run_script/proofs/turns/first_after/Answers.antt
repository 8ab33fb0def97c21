use Rattle.std.proofs.Common.{◌+◌, arith}
use Rattle.run_script.specs.declared.events.Event.TheVariants.{Tick}
use Rattle.run_script.specs.Events.{script_data}
use Rattle.run_script.proofs.Coming.{first_listed_is, default_same}
use Rattle.run_script.proofs.turns.first_after.Goals as goal

pub returns-else-events-at : goal.returns-else-events-at
returns-else-events-at c =
    let xs = c.as_slice-events.result.now in
    let later = c.if-events-at.false in
    first_listed_is (script_data c.args.script.now) xs (c.args.turn + 1) c.on.at c.args.script.now.facts.ascending c.as_slice-events.ensures.value c.on.invariant.within c.on.invariant.before
    (λ there d. omega (arith, later, default_same xs c.on.at d (0, Tick) there))

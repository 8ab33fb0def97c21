use Rattle.run_script.specs.Events.{script_data}
use Rattle.run_script.proofs.Coming.{first_listed_by}
use Rattle.run_script.proofs.turns.first_by.Goals as goal

pub returns-then-is_first : goal.returns-then-is_first
returns-then-is_first c =
    let yes = c.if-is_first.true in
    first_listed_by (script_data c.args.script.now) c.as_slice.result.now c.args.turn c.args.guess c.args.script.now.facts.ascending c.as_slice.ensures.value (c.is_first.ensures.within yes) (c.is_first.ensures.before yes) (c.is_first.ensures.from yes)

use Rattle.run_script.specs.Events.{script_data}
use Rattle.run_script.specs.Scripts.{listed_of, ticks_of}
use Rattle.run_script.proofs.Coming.{next_is}
use Rattle.run_script.proofs.turns.next_of.Goals as goal

pub returns : goal.returns
returns c =
    let script = script_data c.args.script.now in
    next_is script c.args.from c.lesser.result (c.lesser.ensures (ticks_of script.every) (λ turn. listed_of turn script.events) c.args.from c.next_tick.ensures c.next_listed.ensures)

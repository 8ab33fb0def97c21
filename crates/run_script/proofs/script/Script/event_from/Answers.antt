use Rattle.run_script.specs.Events.{script_data}
use Rattle.run_script.specs.Facts.{HasLine, HasDevice}
use Rattle.run_script.specs.Scripts.{events_of}
use Rattle.run_script.proofs.Each.{each_turn, few_events, holds_of}
use Rattle.run_script.proofs.script.Script.event_from.Goals as goal

pub returns-clause-few : goal.returns-clause-few
returns-clause-few c =
    let script = script_data c.args.self.now in
    few_events (events_of script c.args.turn) c.args.k c.event_of.result c.event_of.ensures (each_turn script c.args.self.now.facts c.args.turn).few

pub returns-clause-line : goal.returns-clause-line
returns-clause-line c =
    let script = script_data c.args.self.now in
    holds_of HasLine (events_of script c.args.turn) c.args.k c.event_of.result c.event_of.ensures (each_turn script c.args.self.now.facts c.args.turn).lines

pub returns-clause-device : goal.returns-clause-device
returns-clause-device c =
    let script = script_data c.args.self.now in
    holds_of HasDevice (events_of script c.args.turn) c.args.k c.event_of.result c.event_of.ensures (each_turn script c.args.self.now.facts c.args.turn).devices

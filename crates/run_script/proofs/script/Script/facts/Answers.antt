use Rattle.run_script.specs.Events.{script_data}
use Rattle.run_script.proofs.Each.{each_turn}
use Rattle.run_script.proofs.script.Script.facts.Goals as goal

pub returns-clause-turn : goal.returns-clause-turn
returns-clause-turn c = each_turn (script_data c.args.self.now) c.args.self.now.facts

use Rattle.app_toml.specs.Held.{app_of}
use Rattle.app_toml.proofs.Related.{relations}
use Rattle.app_toml.proofs.app.App.relations.Goals as goal

pub returns : goal.returns
returns c = relations (app_of c.args.self.now) c.args.self.now.accepted.crossed

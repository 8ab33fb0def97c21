use Rattle.std.proofs.Common.{arith, ap, length}
use Rattle.app_toml.specs.Held.{app_of}
use Rattle.image_build.proofs.Sound.{are_few}
use Rattle.image_build.proofs.finishing.header_of.Goals as goal

pub overflow_cast-result : goal.overflow_cast-result
overflow_cast-result c = omega (arith, ap length c.requires.tasks, (are_few (app_of c.args.app.now) c.facts.ensures c.relations.ensures).tasks)

pub overflow_cast-result-2 : goal.overflow_cast-result-2
overflow_cast-result-2 c = omega (arith, ap length c.requires.lines, (are_few (app_of c.args.app.now) c.facts.ensures c.relations.ensures).lines)

pub overflow_cast-result-3 : goal.overflow_cast-result-3
overflow_cast-result-3 c = omega (arith, ap length c.requires.regions, (are_few (app_of c.args.app.now) c.facts.ensures c.relations.ensures).regions)

pub overflow_cast-result-4 : goal.overflow_cast-result-4
overflow_cast-result-4 c = omega (arith, ap length c.requires.names, (are_few (app_of c.args.app.now) c.facts.ensures c.relations.ensures).names)

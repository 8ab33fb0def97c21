use Rattle.std.proofs.Common.{arith}
use Rattle.std.proofs.lemmas.Grind.{common_steps}
use Rattle.app_toml.specs.Held.{app_of}
use Rattle.app_toml.specs.Sites.{task_of}
use Rattle.image_build.proofs.Finding.{same_count}
use Rattle.image_build.proofs.tasks.task_records.Goals as goal

pub task_record-requires-clause-task : goal.task_record-requires-clause-task
task_record-requires-clause-task c = omega (arith, c.loop-i-test.true, same_count task_of c.tasks-count.result.now (app_of c.args.app.now).tasks c.tasks-count.ensures)

pub loop-i-preserved : goal.loop-i-preserved
loop-i-preserved c = grind (arith, common_steps)

pub returns : goal.returns
returns c = grind (arith, common_steps)

use Rattle.std.proofs.Common.{arith}
use Rattle.std.proofs.lemmas.Grind.{common_steps}
use Rattle.app_toml.specs.Held.{app_of}
use Rattle.app_toml.specs.Sites.{task_of}
use Rattle.image_build.proofs.Finding.{same_count}
use Rattle.image_build.proofs.Recorded.{regions_more}
use Rattle.image_build.proofs.tasks.region_records.Goals as goal

pub loop-i-preserved : goal.loop-i-preserved
loop-i-preserved c =
    let app = app_of c.args.app.now in
    regions_more app _ _ _ c.loop-i.i (omega (arith, c.loop-i-test.true, same_count task_of c.tasks-count.result.now app.tasks c.tasks-count.ensures))
    c.in_ok-push_task_regions.ensures c.loop-i.invariant

pub returns : goal.returns
returns c = grind (arith, common_steps)

pub push_task_regions-requires-clause-task : goal.push_task_regions-requires-clause-task
push_task_regions-requires-clause-task c = omega (arith, same_count task_of c.tasks-count.result.now (app_of c.args.app.now).tasks c.tasks-count.ensures)

use Rattle.std.proofs.Common.{◌≤◌, arith, length, subst, sym}
use Rattle.std.proofs.lemmas.Grind.{common_steps}
use Rattle.app_toml.specs.Held.{app_of}
use Rattle.app_toml.specs.declared.parts.TaskSpec.{TaskSpec}
use Rattle.image_build.proofs.Finding.{few_notes_in}
use Rattle.image_build.proofs.symbols.push_tasks.Goals as goal

pub push_task-requires : goal.push_task-requires
push_task-requires c =
    subst (λ (t : TaskSpec). length t.notifications.items ≤ 32) (sym c.index-tasks-k.is)
    (few_notes_in (app_of c.args.app.now) _ c.facts.ensures c.tasks-tasks.ensures c.loop-k.k c.index-tasks-k.result (omega arith))

pub loop-k-preserved : goal.loop-k-preserved
loop-k-preserved c = grind (arith, common_steps)

pub returns : goal.returns
returns c = grind (arith, common_steps)

pub overflow_cast-k : goal.overflow_cast-k
overflow_cast-k c = grind (arith, common_steps)

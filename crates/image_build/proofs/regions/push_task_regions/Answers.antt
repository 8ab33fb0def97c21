use Rattle.std.proofs.Common.{◌∙◌, ap, arith, map, string_bytes}
use Rattle.std.proofs.lemmas.Grind.{common_steps}
use Rattle.app_toml.specs.Apps.{TaskData}
use Rattle.app_toml.specs.Held.{app_of}
use Rattle.image_build.specs.Layout.{task_at}
use Rattle.image_build.proofs.Known.{read_known, used_known}
use Rattle.image_build.proofs.Recorded.{known_names}
use Rattle.image_build.proofs.regions.push_task_regions.Goals as goal

pub push_named-requires-clause-known : goal.push_named-requires-clause-known
push_named-requires-clause-known c =
    let app = app_of c.args.app.now in
    let i = c.args.i in
    known_names app (task_at app i).uses c.as_slice.result.now
    (ap (map string_bytes) c.as_slice.ensures.value ∙ ap (λ (t : TaskData). t.uses) c.task-task.ensures.task)
    (used_known app c.facts.ensures i c.requires.task)

pub push_named-requires-2-clause-known : goal.push_named-requires-2-clause-known
push_named-requires-2-clause-known c =
    let app = app_of c.args.app.now in
    let i = c.args.i in
    known_names app (task_at app i).reads c.as_slice-2.result.now
    (ap (map string_bytes) c.as_slice-2.ensures.value ∙ ap (λ (t : TaskData). t.reads) c.task-task.ensures.task)
    (read_known app c.facts.ensures i c.requires.task)

pub returns : goal.returns
returns c = grind (arith, common_steps)

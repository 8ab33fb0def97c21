use Rattle.std.proofs.Common.{◌∙◌, ◌++◌, List, ℕ, ◌≤◌, All, Global, String, ap, arith, length, map, rules, string_bytes, subst, sym}
use Rattle.std.proofs.lemmas.Grind.{common_steps}
use Rattle.std.specs.List.{flat_map}
use Rattle.app_toml.specs.Apps.{TaskData}
use Rattle.app_toml.specs.Held.{app_of}
use Rattle.app_toml.specs.Sites.{task_of}
use Rattle.image_format.specs.ImageData.{names_bytes}
use Rattle.image_build.proofs.EachName.{bytes_more, flat_map_twice, names_built, short_in}
use Rattle.image_build.proofs.spelled.all_names.Goals as goal

pub loop-task-init : goal.loop-task-init
loop-task-init c =
    let app = app_of c.args.app.now in
    ap (λ (bs : List ℕ). bs ++ flat_map (λ t. names_bytes (map string_bytes t.notifications.items)) c.tasks-tasks.result.now) c.new-out.ensures.items
    ∙ sym (flat_map_twice (λ (t : TaskData). names_bytes t.notifications) task_of c.tasks-tasks.result.now)
    ∙ ap (flat_map (λ (t : TaskData). names_bytes t.notifications)) c.tasks-tasks.ensures
    ∙ sym (names_built app 0 app.tasks)

pub push_names-requires : goal.push_names-requires
push_names-requires c =
    let app = app_of c.args.app.now in
    subst (λ (ns : List (String Global)). All (λ n. length (string_bytes n) ≤ 24) ns) (sym c.as_slice.ensures.value)
    (short_in app c.tasks-tasks.result.now c.facts.ensures c.tasks-tasks.ensures c.loop-task.task-index c.task-item.result c.loop-task-test.true c.task-item.is)

pub loop-task-preserved : goal.loop-task-preserved
loop-task-preserved c =
    bytes_more (λ t. names_bytes (map string_bytes t.notifications.items)) _ _ _ c.tasks-tasks.result.now c.loop-task.task-index c.task-item.result c.loop-task-test.true c.task-item.is
    (search rules) c.loop-task.invariant

pub returns : goal.returns
returns c = grind (arith, common_steps)

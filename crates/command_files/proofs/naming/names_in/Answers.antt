use Rattle.std.proofs.Common.{◌≡◌, ◌∙◌, codes, List, Option, ap, length, map, sym, subst}
use Rattle.std.proofs.lemmas.List.{length-map}
use Rattle.app_toml.specs.Apps.{AppData, TaskData}
use Rattle.app_toml.specs.Held.{app_of}
use Rattle.app_toml.specs.Sites.{task_of}
use Rattle.command_files.specs.Contents.{Why}
use Rattle.command_files.specs.FileFaults.{IsFaultFor}
use Rattle.command_files.proofs.Refusals.{is_application, names_by_tasks, names_faulty, tasks_refused, tasks_taken}
use Rattle.command_files.proofs.naming.names_in.Goals as goal

pub returns-in-Err-clause-file_fault : goal.returns-in-Err-clause-file_fault
returns-in-Err-clause-file_fault c = names_faulty c.args.tasks c.args.bytes.now c.in-Err.file_fault c.requires c.in-Err.ensures.file_fault

pub returns-then-described-tasks-clause-file_fault : goal.returns-then-described-tasks-clause-file_fault
returns-then-described-tasks-clause-file_fault c =
    let app = app_of c.in-Ok.app in
    let many : length app.tasks ≡ length c.tasks-described.result.now = ap (λ (ts : List TaskData). length ts) (sym c.tasks-described.ensures) ∙ length-map c.tasks-described.result.now task_of in
    let why = names_by_tasks c.args.tasks c.args.bytes.now app c.requires c.in-Ok.ensures.app ∙ tasks_refused c.args.tasks app (λ same. c.if-described-tasks.true (sym many ∙ same)) in
    subst (λ (o : Option Why). IsFaultFor o c.refused_at.result) (sym why) (c.refused_at.ensures (codes "task") c.from_str.ensures.ok)

pub returns-in-Ok-names_of-clause-accepted : goal.returns-in-Ok-names_of-clause-accepted
returns-in-Ok-names_of-clause-accepted c =
    let app = app_of c.in-Ok.app in
    let many : length app.tasks ≡ length c.tasks-described.result.now = ap (λ (ts : List TaskData). length ts) (sym c.tasks-described.ensures) ∙ length-map c.tasks-described.result.now task_of in
    names_by_tasks c.args.tasks c.args.bytes.now app c.requires c.in-Ok.ensures.app ∙ tasks_taken c.args.tasks app (many ∙ c.if-described-tasks.false)

pub returns-in-Ok-names_of-clause-names : goal.returns-in-Ok-names_of-clause-names
returns-in-Ok-names_of-clause-names c =
    c.in-Ok-names_of.ensures.names ∙ ap (λ (ts : List TaskData). map (λ t. t.name) ts) c.tasks-described.ensures
    ∙ sym (ap (λ (a : AppData). map (λ t. t.name) a.tasks) (is_application c.args.bytes.now (app_of c.in-Ok.app) c.in-Ok.ensures.app))

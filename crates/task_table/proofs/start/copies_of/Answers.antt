use Rattle.std.proofs.Common.{◌≡◌, ◌∙◌, ◌++◌, ◌∷◌, [], List, ap, sym, length, map, take, take_all}
use Rattle.std.proofs.lemmas.List.{length-map, map_more, map-append}
use Rattle.task_table.specs.model.State.{TaskSetup}
use Rattle.task_table.specs.kept.Parts.{task_setup}
use Rattle.task_table.proofs.start.copies_of.Goals as goal

pub loop-task-init : goal.loop-task-init
loop-task-init c = ap (map task_setup) c.new-copies.ensures.items

pub loop-task-preserved : goal.loop-task-preserved
loop-task-preserved c =
    let tasks = c.args.tasks.now in
    let k = c.loop-task.task-index in
    ap (map task_setup) c.in_ok-push.ensures.items
    ∙ map-append task_setup c.loop-task.copies.items (c.in_ok-copy_of.field-0 ∷ [])
    ∙ ap (λ (ss : List TaskSetup). ss ++ task_setup c.in_ok-copy_of.field-0 ∷ []) c.loop-task.invariant
    ∙ ap (λ (s : TaskSetup). map task_setup (take k tasks) ++ s ∷ []) (c.in_ok-copy_of.ensures ∙ ap task_setup c.task-item.is)
    ∙ sym (map_more task_setup tasks k _ c.loop-task-test.true)

pub returns-clause-setup : goal.returns-clause-setup
returns-clause-setup c = c.loop-task.invariant ∙ ap (map task_setup) (take_all c.loop-task.task-index c.args.tasks.now c.loop-task-test.false)

pub returns-clause-length : goal.returns-clause-length
returns-clause-length c =
    let same : map task_setup c.loop-task.copies.items ≡ map task_setup c.args.tasks.now = c.loop-task.invariant ∙ ap (map task_setup) (take_all c.loop-task.task-index c.args.tasks.now c.loop-task-test.false) in
    sym (length-map c.loop-task.copies.items task_setup) ∙ ap length same ∙ length-map c.args.tasks.now task_setup

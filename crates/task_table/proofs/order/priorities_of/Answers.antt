use Rattle.std.proofs.Common.{◌≡◌, ◌∙◌, ◌+◌, ◌<◌, ◌++◌, ◌∷◌, [], ℕ, List, ap, sym, length, get_or, map, take, take_all}
use Rattle.std.proofs.lemmas.List.{map_more, map_push}
use Rattle.task_table.specs.model.State.{TaskSetup}
use Rattle.task_table.specs.kept.Parts.{task_setup}
use Rattle.task_table.specs.kept.Order.{priorities_of}
use Rattle.task_table.specs.declared.start.TaskStart.{TaskStart}
use Rattle.task_table.proofs.order.priorities_of.Goals as goal

one_more : (numbers pushed : List ℕ) (tasks : List TaskStart) (k : ℕ) (x : TaskStart)
    → pushed ≡ numbers ++ x.priority ∷ [] → numbers ≡ priorities_of (map task_setup (take k tasks)) → x ≡ get_or tasks k x → k < length tasks → pushed ≡ priorities_of (map task_setup (take (k + 1) tasks))
one_more numbers pushed tasks k x is so_far at there =
    is
    ∙ ap (λ (ns : List ℕ). ns ++ x.priority ∷ []) so_far
    ∙ ap (λ (t : TaskStart). priorities_of (map task_setup (take k tasks)) ++ t.priority ∷ []) at
    ∙ sym (ap priorities_of (map_more task_setup tasks k x there) ∙ map_push (λ (s : TaskSetup). s.priority) (map task_setup (take k tasks)) (task_setup (get_or tasks k x)))

pub loop-task-init : goal.loop-task-init
loop-task-init c = c.new-priorities.ensures.items

pub loop-task-preserved : goal.loop-task-preserved
loop-task-preserved c = one_more c.loop-task.priorities.items c.push.new.self.items c.args.tasks.now c.loop-task.task-index c.task-item.result c.in_ok-push.ensures.items c.loop-task.invariant c.task-item.is c.loop-task-test.true

pub returns : goal.returns
returns c = c.loop-task.invariant ∙ ap (λ (ts : List TaskStart). priorities_of (map task_setup ts)) (take_all c.loop-task.task-index c.args.tasks.now c.loop-task-test.false)

use Rattle.std.proofs.Common.{map, take, subst, sym, arith}
use Rattle.std.specs.BTreeMap.{get_by_text}
use Rattle.app_toml.specs.Known.{IsKept}
use Rattle.app_toml.specs.Sites.{task_of}
use Rattle.app_toml.proofs.Gathered.{nothing_kept, taken_more}
use Rattle.app_toml.proofs.known.kept_tasks.Goals as goal

pub loop-task-init : goal.loop-task-init
loop-task-init c = nothing_kept c.new-kept.result c.new-kept.ensures.empty

pub loop-task-preserved : goal.loop-task-preserved
loop-task-preserved c = λ name.
    subst (IsKept (get_by_text c.keep_task.new.kept name) name)
    (sym (taken_more task_of c.args.tasks.now c.loop-task.task-index c.task-item.result (omega arith) c.task-item.is))
    (c.in_ok-keep_task.ensures (map task_of (take c.loop-task.task-index c.args.tasks.now)) c.loop-task.invariant name)

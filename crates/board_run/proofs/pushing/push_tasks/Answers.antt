use Rattle.std.proofs.Common.{arith}
use Rattle.std.proofs.lemmas.Result.{err_from_is_err_and}
use Rattle.board_run.proofs.Tasks.{tasks_more, tasks_fail, timers_more}
use Rattle.board_run.proofs.pushing.push_tasks.Goals as goal

pub loop-i-preserved : goal.loop-i-preserved
loop-i-preserved g c = record {
  pushed = λ x s st. tasks_more _ _ _ s c.loop-i.i c.in-Some.task (c.in-Some.ensures.view x s st) (c.loop-i.invariant.pushed x s st) c.in_ok-push_task-in-Some.ensures.bytes;
  timers = λ x s st. timers_more s c.loop-i.i c.in-Some.task (c.in-Some.ensures.view x s st) c.push_task.ensures.fit (c.loop-i.invariant.timers x s st);
  later = omega (arith, c.loop-i.invariant.later, c.in_ok-push_task-in-Some.ensures.cause.later);
}

pub returns-in_err-push_task-in-Some-clause-bytes : goal.returns-in_err-push_task-in-Some-clause-bytes
returns-in_err-push_task-in-Some-clause-bytes g c = λ x s st.
    let p = err_from_is_err_and c.from_residual.result c.from_residual.ensures.1 in
    tasks_fail _ _ _ s c.loop-i.i c.in-Some.task c.from_residual.result p.0 p.1 (c.in-Some.ensures.view x s st) (c.loop-i.invariant.pushed x s st) c.in_err-push_task-in-Some.ensures.bytes

pub returns-clause-timers : goal.returns-clause-timers
returns-clause-timers g c = λ x s st i lt. c.loop-i.invariant.timers x s st i (omega (arith, lt, c.task_count-i-end.ensures.tasks x s st, c.loop-i.auto.i-end, c.loop-i-test.false))

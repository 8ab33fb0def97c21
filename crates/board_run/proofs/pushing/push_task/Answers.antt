use Rattle.std.proofs.lemmas.Result.{err_from_is_err_and}
use Rattle.board_run.specs.ViewText.{view_text}
use Rattle.outside_io.proofs.Pushing.{appends_more, pushes_more, front_wider, front_more}
use Rattle.board_run.proofs.pushing.push_task.Goals as goal

pub returns-in_err-push_task_line-clause-bytes : goal.returns-in_err-push_task_line-clause-bytes
unfolding view_text
returns-in_err-push_task_line-clause-bytes g c =
    let p = err_from_is_err_and c.from_residual.result c.from_residual.ensures.1 in
    rw (p.1) (front_wider _ _ _ _ (front_wider _ _ _ _ c.in_err-push_task_line.ensures.bytes))

pub returns-in_err-push_low-clause-bytes : goal.returns-in_err-push_low-clause-bytes
unfolding view_text
returns-in_err-push_low-clause-bytes g c =
    let p = err_from_is_err_and c.from_residual-in_err-push_low.result c.from_residual-in_err-push_low.ensures.1 in
    rw (p.1) (front_wider _ _ _ _ (front_more _ _ _ _ _ c.in_ok-push_task_line.ensures.bytes c.in_err-push_low.ensures.bytes))

pub returns-clause-bytes : goal.returns-clause-bytes
unfolding view_text
returns-clause-bytes g c =
    pushes_more _ _ _ _ _ c.push_high.result (appends_more _ _ _ _ _ c.in_ok-push_task_line.ensures.bytes c.in_ok-push_low.ensures.bytes) c.push_high.ensures.bytes

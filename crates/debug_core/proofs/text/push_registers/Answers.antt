use Rattle.std.proofs.lemmas.Result.{err_from_is_err_and}
use Rattle.outside_io.proofs.Pushing.{front_wider, pushes_more}
use Rattle.debug_core.proofs.text.push_registers.Goals as goal

pub returns-in_err-push_low-clause-bytes : goal.returns-in_err-push_low-clause-bytes
returns-in_err-push_low-clause-bytes g c =
    let p = err_from_is_err_and c.from_residual.result c.from_residual.ensures.1 in
    rw (p.1) (front_wider _ _ _ _ c.in_err-push_low.ensures.bytes)

pub returns-clause-bytes : goal.returns-clause-bytes
returns-clause-bytes g c =
    pushes_more _ _ _ _ _ c.push_high.result c.in_ok-push_low.ensures.bytes c.push_high.ensures.bytes

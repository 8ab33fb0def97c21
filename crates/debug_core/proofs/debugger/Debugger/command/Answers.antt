use Rattle.std.proofs.Common.{ℕ, ◌≤◌, arith}
use Rattle.std.specs.Prelude.{Result, Ok, Err}
use Rattle.std.proofs.lemmas.Result.{err_from_is_err_and}
use Rattle.outside_io.specs.Outside.{HasCause}
use Rattle.outside_io.proofs.Pushing.{pushes_kept}
use Rattle.debug_core.specs.Answers.{told}
use Rattle.debug_core.proofs.debugger.Debugger.command.Goals as goal

then_caused : {T E : Type 0} (before now after : ℕ) (r : Result T E) → before ≤ now → HasCause now after r → HasCause before after r
then_caused before now after (Ok v) le h = record { later = omega (arith, le, h.later); failed = tt }
then_caused before now after (Err e) le h = record { later = omega (arith, le, h.later); failed = omega (arith, le, h.failed) }

pub returns-in_err-push_told-clause-told : goal.returns-in_err-push_told-clause-told
returns-in_err-push_told-clause-told g c = λ x s h.
    let p = err_from_is_err_and c.from_residual.result c.from_residual.ensures.1 in
    rw (p.1) (c.in_err-push_told.ensures.told x s h)

pub returns-clause-told : goal.returns-clause-told
returns-clause-told g c = λ x s h. pushes_kept _ _ _ (told x s c.args.command.now) c.flush.result (c.in_ok-push_told.ensures.told x s h) c.flush.ensures.written

pub returns-clause-cause : goal.returns-clause-cause
returns-clause-cause g c = then_caused _ _ _ c.flush.result c.in_ok-push_told.ensures.cause.later c.flush.ensures.cause

use Rattle.std.proofs.Common.{◌-◌, Ok, Err, arith}
use Rattle.std.proofs.lemmas.Result.{err_from_is_err_and}
use Rattle.outside_io.specs.declared.traits.Failed.{Failed}
use Rattle.board_model.specs.declared.outcomes.End.{End}
use Rattle.board_model.specs.Run.{run}
use Rattle.board_model.proofs.Lifetimes.{ledger-run}
use Rattle.board_run.proofs.Breaking.{broken_text, breaks_off, breaks_at_end, ended_text}
use Rattle.board_run.proofs.running.run.Goals as goal

-- ## a failure as a turn is told

pub returns-in_err-end-clause-text : goal.returns-in_err-end-clause-text
returns-in_err-end-clause-text g c = λ x s st.
    let p = err_from_is_err_and c.from_residual.result c.from_residual.ensures.1 in
    let b = c.in_err-end.ensures.broken x s st in
    broken_text c.args.level x _ _ s c.play.new.board c.args.limit _ b.last c.from_residual.result p.0 p.1 c.in_err-end.ensures.within b.is_last b.before.pushed b.broken.pushed

pub returns-in_err-end-clause-broken : goal.returns-in_err-end-clause-broken
returns-in_err-end-clause-broken g c = λ x s st.
    let p = err_from_is_err_and c.from_residual.result c.from_residual.ensures.1 in
    let b = c.in_err-end.ensures.broken x s st in
    rw (p.1) (breaks_off c.args.level x _ _ s c.play.new.board (c.args.limit - s.turn) _ b.last b.is_last b.before.pushed b.broken.pushed)

pub returns-in_err-end-clause-cause : goal.returns-in_err-end-clause-cause
returns-in_err-end-clause-cause g c =
    let p = err_from_is_err_and c.from_residual.result c.from_residual.ensures.1 in
    let b = c.in_err-end.ensures.broken c.requires.stood.0 c.requires.stood.1 c.requires.stood.2 in
    record {
      later = omega (arith, b.before.later, b.broken.later);
      failed = rw (p.1) (omega (arith, b.before.later, b.broken.rose));
    }

pub returns-in_err-end-clause-ledger : goal.returns-in_err-end-clause-ledger
returns-in_err-end-clause-ledger g c = λ x st. ledger-run c.args.level x c.args.limit st.sane

-- ## a failure at the end

pub returns-in_err-push_end-clause-text : goal.returns-in_err-push_end-clause-text
returns-in_err-push_end-clause-text g c = λ x s st.
    let p = err_from_is_err_and c.from_residual-in_err-push_end.result c.from_residual-in_err-push_end.ensures.1 in
    let played = c.in_ok-end.ensures in
    rw (p.1) (ended_text {R = End} {E = Failed} _ _ _ c.in_ok-end.end (Err p.0) (run c.args.level x (c.args.limit - s.turn) s) (played.end x s st) (played.told x s st).pushed (c.in_err-push_end.ensures.bytes x _ (played.last x s st)))

pub returns-in_err-push_end-clause-broken : goal.returns-in_err-push_end-clause-broken
returns-in_err-push_end-clause-broken g c = λ x s st.
    let p = err_from_is_err_and c.from_residual-in_err-push_end.result c.from_residual-in_err-push_end.ensures.1 in
    let played = c.in_ok-end.ensures in
    rw (p.1) (breaks_at_end c.args.level x _ _ s c.play.new.board (c.args.limit - s.turn) _ c.in_ok-end.end (played.end x s st) (played.whole x s st) (played.told x s st).pushed (c.in_err-push_end.ensures.bytes x _ (played.midway x s st)))

pub returns-in_err-push_end-clause-cause : goal.returns-in_err-push_end-clause-cause
returns-in_err-push_end-clause-cause g c =
    let p = err_from_is_err_and c.from_residual-in_err-push_end.result c.from_residual-in_err-push_end.ensures.1 in
    let heard = c.in_ok-end.ensures.told c.requires.stood.0 c.requires.stood.1 c.requires.stood.2 in
    record {
      later = omega (arith, heard.later, c.in_err-push_end.ensures.cause.later);
      failed = rw (p.1) (omega (arith, heard.later, c.in_err-push_end.ensures.cause.failed));
    }

pub returns-in_err-push_end-clause-ledger : goal.returns-in_err-push_end-clause-ledger
returns-in_err-push_end-clause-ledger g c = λ x st. ledger-run c.args.level x c.args.limit st.sane

-- ## the whole text

pub returns-clause-text : goal.returns-clause-text
returns-clause-text g c = λ x s st.
    let played = c.in_ok-end.ensures in
    ended_text {R = End} {E = Failed} _ _ _ c.in_ok-end.end (Ok c.in_ok-end.end) (run c.args.level x (c.args.limit - s.turn) s) (played.end x s st) (played.told x s st).pushed (c.in_ok-push_end.ensures.bytes x _ (played.last x s st))

pub returns-clause-cause : goal.returns-clause-cause
returns-clause-cause g c =
    let heard = c.in_ok-end.ensures.told c.requires.stood.0 c.requires.stood.1 c.requires.stood.2 in
    record { later = omega (arith, heard.later, c.in_ok-push_end.ensures.cause.later); failed = tt }

pub returns-clause-ledger : goal.returns-clause-ledger
returns-clause-ledger g c = λ x st. ledger-run c.args.level x c.args.limit st.sane

pub returns-clause-fit : goal.returns-clause-fit
returns-clause-fit g c = λ x s st. (c.in_ok-end.ensures.told x s st).fit

pub returns-clause-timers : goal.returns-clause-timers
returns-clause-timers g c = λ x s st. c.in_ok-push_end.ensures.timers x _ (c.in_ok-end.ensures.last x s st)

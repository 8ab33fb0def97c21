use Rattle.std.proofs.Common.{◌-◌, Ok, Err, arith}
use Rattle.std.proofs.lemmas.Result.{err_from_is_err_and}
use Rattle.outside_io.specs.declared.traits.Failed.{Failed}
use Rattle.board_model.specs.declared.outcomes.End.{End}
use Rattle.board_model.specs.declared.outcomes.Level.TheVariants.{Calls}
use Rattle.board_model.specs.Run.{run}
use Rattle.board_run.proofs.Grown.{summary_pushed}
use Rattle.board_run.proofs.summary.summarize.Goals as goal

-- ## counting never fails

pub returns-in_err-end-clause-text : goal.returns-in_err-end-clause-text
returns-in_err-end-clause-text g c = λ x s st. absurd (c.in_err-end.ensures.broken x s st).broken

pub returns-in_err-end-clause-last : goal.returns-in_err-end-clause-last
returns-in_err-end-clause-last g c = λ x s st. absurd (c.in_err-end.ensures.broken x s st).broken

pub returns-in_err-end-clause-cause : goal.returns-in_err-end-clause-cause
returns-in_err-end-clause-cause g c = absurd (c.in_err-end.ensures.broken c.requires.stood.0 c.requires.stood.1 c.requires.stood.2).broken

-- ## the two lines

pub returns-in_err-push_summary-clause-text : goal.returns-in_err-push_summary-clause-text
returns-in_err-push_summary-clause-text g c = λ x s st.
    let p = err_from_is_err_and c.from_residual-in_err-push_summary.result c.from_residual-in_err-push_summary.ensures.1 in
    let played = c.in_ok-end.ensures in
    rw (p.1) (summary_pushed {R = End} {E = Failed} _ _ (Err p.0) (run Calls x (c.args.limit - s.turn) s) c.in_ok-end.end c.new-counts.result _ (played.end x s st) c.new-counts.ensures (played.told x s st) (omega (arith, played.noted x s st, c.requires.few)) (c.in_err-push_summary.ensures.bytes x _ (played.last x s st)))

pub returns-clause-text : goal.returns-clause-text
returns-clause-text g c = λ x s st.
    let played = c.in_ok-end.ensures in
    summary_pushed {R = End} {E = Failed} _ _ (Ok c.in_ok-end.end) (run Calls x (c.args.limit - s.turn) s) c.in_ok-end.end c.new-counts.result _ (played.end x s st) c.new-counts.ensures (played.told x s st) (omega (arith, played.noted x s st, c.requires.few)) (c.in_ok-push_summary.ensures.bytes x _ (played.last x s st))

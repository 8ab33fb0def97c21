use Rattle.trace_cli.proofs.Statuses.{answered, completed, was_cut, was_done, was_refused, was_no_command, was_unread, was_short, known, others, kept}
use Rattle.trace_cli.proofs.GoingOn.{goes_on}
use Rattle.trace_cli.proofs.program.hubris_main_with.Goals as goal

pub returns-clause-seen : goal.returns-clause-seen
returns-clause-seen g c = λ v e. answered _ _ _ _ _ v _ c.answer.ensures.answer e

pub returns-clause-complete : goal.returns-clause-complete
returns-clause-complete g c = λ no_read no_put no_push v e. completed _ _ _ _ _ v _ no_read no_put no_push (answered _ _ _ _ _ v _ c.answer.ensures.answer e)

pub returns-clause-others : goal.returns-clause-others
returns-clause-others g c = λ name not. others _ _ _ _ _ _ name c.answer.ensures.answer not

pub returns-clause-kept : goal.returns-clause-kept
returns-clause-kept g c = λ not0 not4. kept _ _ _ _ _ _ c.answer.ensures.answer not0 not4

pub returns-clause-known : goal.returns-clause-known
returns-clause-known g c = known _ _ _ _ _ _ c.answer.ensures.answer

pub returns-clause-done : goal.returns-clause-done
returns-clause-done g c = λ e. was_done _ _ _ _ _ _ c.answer.ensures.answer e

pub returns-clause-refused : goal.returns-clause-refused
returns-clause-refused g c = λ e. was_refused _ _ _ _ _ _ c.answer.ensures.answer e

pub returns-clause-no_command : goal.returns-clause-no_command
returns-clause-no_command g c = λ e. was_no_command _ _ _ _ _ _ c.answer.ensures.answer e

pub returns-clause-unread : goal.returns-clause-unread
returns-clause-unread g c = λ e. was_unread _ _ _ _ _ _ c.answer.ensures.answer e

pub returns-clause-cut : goal.returns-clause-cut
returns-clause-cut g c = λ e. was_cut _ _ _ _ _ _ c.answer.ensures.answer e

pub returns-clause-short : goal.returns-clause-short
returns-clause-short g c = λ e. was_short _ _ _ _ _ _ c.answer.ensures.answer e

pub returns-clause-goes_on : goal.returns-clause-goes_on
returns-clause-goes_on g c = goes_on _ _ _ _ _ _ c.answer.ensures.each

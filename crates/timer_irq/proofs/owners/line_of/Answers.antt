use Rattle.std.proofs.Common.{sym}
use Rattle.std.proofs.lemmas.Option.{get_or_from_slice_get}
use Rattle.task_table.specs.model.Reading.{line_at, no_line}
use Rattle.timer_irq.proofs.Lines.{get_none}
use Rattle.timer_irq.proofs.owners.line_of.Goals as goal

pub returns-in-Some : goal.returns-in-Some
unfolding line_at
returns-in-Some c = λ g t h. sym (get_or_from_slice_get t.state.lines c.args.number c.in-Some.line no_line (sym (c.in-Some.ensures g t h)))

pub returns-in-None : goal.returns-in-None
unfolding line_at
returns-in-None c = λ g t h. sym (get_none t.state.lines c.args.number no_line (sym (c.in-None.ensures g t h)))

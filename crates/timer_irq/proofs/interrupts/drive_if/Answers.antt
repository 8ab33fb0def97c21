use Rattle.std.proofs.Common.{◌≡◌, true, ap, sym, ◌∙◌}
use Rattle.task_table.specs.declared.Line.{Line}
use Rattle.task_table.specs.model.Reading.{line_at}
use Rattle.timer_irq.proofs.interrupts.drive_if.Goals as goal

pub returns-then-asked-clause-holds : goal.returns-then-asked-clause-holds
returns-then-asked-clause-holds c = λ g t h.
    let before = rw c.from.ensures at (c.line_of.ensures g t h) in
    let enabled : (line_at t.state c.args.owner.now.line).enabled ≡ true = ap (λ (l : Line). l.enabled) (sym before) ∙ c.if-line_of.true in
    rw (enabled, c.if-asked.true) (rw enabled at (c.interrupt_owned.ensures.holds g t h))

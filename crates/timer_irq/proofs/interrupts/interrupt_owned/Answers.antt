use Rattle.std.proofs.Common.{◌≡◌, true, false, ap, sym, ◌∙◌}
use Rattle.task_table.specs.declared.Line.{Line}
use Rattle.task_table.specs.model.Reading.{line_at}
use Rattle.timer_irq.proofs.interrupts.interrupt_owned.Goals as goal

pub returns-then-before-clause-holds : goal.returns-then-before-clause-holds
returns-then-before-clause-holds c = λ g t h.
    let before = rw c.from-number.ensures at (c.line_of-before.ensures g t h) in
    let enabled : (line_at t.state c.args.line).enabled ≡ true = ap (λ (l : Line). l.enabled) (sym before) ∙ c.if-before.true in
    let h1 = rw c.from-number.ensures at (c.disable.ensures.holds g _ (c.note.ensures.holds g t h)) in
    rw enabled (rw c.from.ensures at (c.post.ensures.holds g _ h1))

pub returns-else-before-clause-holds : goal.returns-else-before-clause-holds
returns-else-before-clause-holds c = λ g t h.
    let before = rw c.from-number.ensures at (c.line_of-before.ensures g t h) in
    let enabled : (line_at t.state c.args.line).enabled ≡ false = ap (λ (l : Line). l.enabled) (sym before) ∙ c.if-before.false in
    rw enabled (rw c.from-number.ensures at (c.disable-else-before.ensures.holds g _ (c.note-else-before.ensures.holds g t h)))

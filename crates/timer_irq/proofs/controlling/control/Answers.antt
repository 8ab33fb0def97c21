use Rattle.std.proofs.Common.{◌≡◌, true, false, ◌||◌, inl, inr, ap, refl, sym, ◌∙◌}
use Rattle.task_table.specs.declared.Line.{Line}
use Rattle.task_table.specs.model.Reading.{line_at}
use Rattle.timer_irq.proofs.controlling.control.Goals as goal

pub returns-then-not-enable-clause-holds : goal.returns-then-not-enable-clause-holds
returns-then-not-enable-clause-holds c = λ g t h.
    let before = rw c.from-number.ensures at (c.line_of-before.ensures g t h) in
    rw (c.if-not-enable.true, ← before) (rw c.from-number.ensures at (c.disable.ensures.holds g t h))

pub returns-then-asked-clause-holds : goal.returns-then-asked-clause-holds
returns-then-asked-clause-holds c = λ g t h.
    let before = rw c.from-number.ensures at (c.line_of-before.ensures g t h) in
    let here : (c.line_of-before.result.pending || c.args.asked) ≡ true = elim c.if-asked.either [ inl pending ↦ rw pending refl | inr asks ↦ rw (asks.0, asks.1) refl ] in
    let waits : ((line_at t.state c.args.line).pending || c.args.asked) ≡ true = ap (λ (l : Line). l.pending || c.args.asked) (sym before) ∙ here in
    rw (c.if-not-enable.false, waits) (c.post.ensures.holds g _ (rw c.from-number.ensures at (c.disable-then-asked.ensures.holds g t h)))

pub returns-else-asked-clause-holds : goal.returns-else-asked-clause-holds
returns-else-asked-clause-holds c = λ g t h.
    let before = rw c.from-number.ensures at (c.line_of-before.ensures g t h) in
    let here : (c.line_of-before.result.pending || c.args.asked) ≡ false = rw (c.if-asked.false.0, c.if-asked.false.1) refl in
    let waits : ((line_at t.state c.args.line).pending || c.args.asked) ≡ false = ap (λ (l : Line). l.pending || c.args.asked) (sym before) ∙ here in
    rw (c.if-not-enable.false, waits) (rw c.from-number.ensures at (c.set_line.ensures.holds g t h))

use Rattle.std.proofs.Common.{◌≡◌, ◌||◌, refl, sym, ap, ◌∙◌}
use Rattle.task_table.specs.declared.Line.{Line}
use Rattle.timer_irq.specs.Midway.{with_asked}
use Rattle.timer_irq.proofs.asking.own_line.Goals as goal

pub returns-then-line : goal.returns-then-line
returns-then-line c = λ g t h.
    let line = c.line_of-line.result in
    let here : line.pending ≡ (line.pending || c.args.asked) = rw c.if-line.true refl in
    let same : line ≡ with_asked c.args.asked line = λ j. record { enabled = line.enabled; pending = here j } in
    rw (sym c.if-is_owner.ensures) (same ∙ ap (with_asked c.args.asked) (rw c.from.ensures at (c.line_of-line.ensures g t h)))

pub returns-else-line : goal.returns-else-line
returns-else-line c = λ g t h.
    let line = c.line_of-line.result in
    let here : c.args.asked ≡ (line.pending || c.args.asked) = rw c.if-line.false refl in
    let asked : Line = record { enabled = line.enabled; pending = c.args.asked } in
    let same : asked ≡ with_asked c.args.asked line = λ j. record { enabled = line.enabled; pending = here j } in
    rw (sym c.if-is_owner.ensures) (same ∙ ap (with_asked c.args.asked) (rw c.from.ensures at (c.line_of-line.ensures g t h)))

pub returns-else-is_owner : goal.returns-else-is_owner
returns-else-is_owner c = λ g t h. rw (sym c.if-is_owner.ensures) refl

use Rattle.std.proofs.Common.{◌≡◌, not, cond, [], ◌∷◌, sym, subst, ap, ◌∙◌}
use Rattle.std.specs.List.{list_any}
use Rattle.kernel_abi.specs.Arguments.{irq_args}
use Rattle.kernel_abi.specs.declared.Note.TheVariants as note
use Rattle.kernel_abi.specs.declared.arguments.IrqArgs.{IrqArgs}
use Rattle.task_table.specs.model.Reading.{arguments}
use Rattle.task_table.specs.model.Effects.{noted}
use Rattle.task_table.specs.model.Rows.{misused, goes_on_with, owns_with, status_of_lines, irq_answered}
use Rattle.task_table.specs.kept.Holds.{Holds}
use Rattle.timer_irq.proofs.asking.irq_status_rows.Goals as goal

pub returns-then-owns-clause-holds : goal.returns-then-owns-clause-holds
unfolding irq_answered
returns-then-owns-clause-holds c = λ g t h a.
    let i = c.args.caller in
    let x = c.of-args.result in
    let same : x ≡ irq_args (arguments t.state i) = c.of-args.ensures ∙ ap irq_args (c.arguments.ensures g t h) in
    let P : IrqArgs → Type 0 = λ y. Holds g c.answer.new.self (cond (not (list_any (owns_with i y.bits) g.lines)) (misused g i 6 t) (goes_on_with i (status_of_lines g t.state i y.bits ∷ []) (noted (note.IrqStatus i y.bits (status_of_lines g t.state i y.bits)) t))) in
    let h1 = c.answer.ensures.holds g _ (c.note.ensures.holds g t h) in
    subst P same (rw (sym (c.if-owns.ensures g t h), ← c.status_of-status.ensures g t h a) h1)

pub returns-else-owns-clause-holds : goal.returns-else-owns-clause-holds
unfolding irq_answered
returns-else-owns-clause-holds c = λ g t h a.
    let i = c.args.caller in
    let x = c.of-args.result in
    let same : x ≡ irq_args (arguments t.state i) = c.of-args.ensures ∙ ap irq_args (c.arguments.ensures g t h) in
    let P : IrqArgs → Type 0 = λ y. Holds g c.misuse.new.self (cond (not (list_any (owns_with i y.bits) g.lines)) (misused g i 6 t) (goes_on_with i (status_of_lines g t.state i y.bits ∷ []) (noted (note.IrqStatus i y.bits (status_of_lines g t.state i y.bits)) t))) in
    subst P same (rw (sym (c.if-owns.ensures g t h)) (c.misuse.ensures.holds g t h))

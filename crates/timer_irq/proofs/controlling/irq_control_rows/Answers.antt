use Rattle.std.proofs.Common.{◌≡◌, not, cond, sym, subst, ap, ◌∙◌}
use Rattle.std.specs.Prelude.{fold, filter}
use Rattle.std.specs.List.{list_any}
use Rattle.kernel_abi.specs.Arguments.{irq_args}
use Rattle.kernel_abi.specs.declared.arguments.IrqArgs.{IrqArgs}
use Rattle.task_table.specs.model.Asking.{is_asked}
use Rattle.task_table.specs.model.Reading.{arguments}
use Rattle.task_table.specs.model.Rows.{misused, goes_on, owns_with, line_controlled, irq_controlled}
use Rattle.task_table.specs.kept.Holds.{Holds}
use Rattle.timer_irq.proofs.controlling.irq_control_rows.Goals as goal

pub returns-then-owns-clause-holds : goal.returns-then-owns-clause-holds
unfolding irq_controlled
returns-then-owns-clause-holds c = λ g t h a.
    let i = c.args.caller in
    let x = c.of-args.result in
    let same : x ≡ irq_args (arguments t.state i) = c.of-args.ensures ∙ ap irq_args (c.arguments.ensures g t h) in
    let P : IrqArgs → Type 0 = λ y. Holds g c.go_on.new.self (cond (not (list_any (owns_with i y.bits) g.lines)) (misused g i 6 t) (goes_on i (fold (λ u o. line_controlled i y.bits y.enable (is_asked t.state o) o.line u) t (filter (owns_with i y.bits) g.lines)))) in
    let h1 = c.control_all.ensures.holds g t h a in
    let h2 = c.go_on.ensures.holds g _ h1 in
    subst P same (rw (sym (c.if-owns.ensures g t h)) h2)

pub returns-else-owns-clause-holds : goal.returns-else-owns-clause-holds
unfolding irq_controlled
returns-else-owns-clause-holds c = λ g t h a.
    let i = c.args.caller in
    let x = c.of-args.result in
    let same : x ≡ irq_args (arguments t.state i) = c.of-args.ensures ∙ ap irq_args (c.arguments.ensures g t h) in
    let P : IrqArgs → Type 0 = λ y. Holds g c.misuse.new.self (cond (not (list_any (owns_with i y.bits) g.lines)) (misused g i 6 t) (goes_on i (fold (λ u o. line_controlled i y.bits y.enable (is_asked t.state o) o.line u) t (filter (owns_with i y.bits) g.lines)))) in
    subst P same (rw (sym (c.if-owns.ensures g t h)) (c.misuse.ensures.holds g t h))

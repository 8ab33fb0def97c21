use Rattle.std.proofs.Common.{◌≡◌, true, false, not, cond, leb, None, Some, subst, ap, ◌∙◌}
use Rattle.std.proofs.lemmas.Bool.{le-leb, lt-leb}
use Rattle.kernel_abi.specs.Arguments.{timer_args}
use Rattle.kernel_abi.specs.declared.arguments.TimerArgs.{TimerArgs}
use Rattle.task_table.specs.model.Reading.{arguments}
use Rattle.task_table.specs.model.Effects.{posted, with_timer}
use Rattle.task_table.specs.model.Rows.{goes_on, timer_set}
use Rattle.task_table.specs.kept.Holds.{Holds}
use Rattle.timer_irq.proofs.timers.set_timer_rows.Goals as goal

pub returns-then-not-args-clause-holds : goal.returns-then-not-args-clause-holds
unfolding timer_set
returns-then-not-args-clause-holds c = λ g t h.
    let i = c.args.caller in
    let x = c.of-args.result in
    let same : x ≡ timer_args (arguments t.state i) = c.of-args.ensures ∙ ap timer_args (c.arguments.ensures g t h) in
    let P : TimerArgs → Type 0 = λ y. Holds g c.go_on.new.self (cond (not y.set) (goes_on i (with_timer i None t)) (cond (leb y.deadline t.state.now) (goes_on i (posted i y.bits (with_timer i None t))) (goes_on i (with_timer i (Some record { deadline = y.deadline; bits = y.bits }) t)))) in
    let h1 = c.go_on.ensures.holds g _ (c.set_timer.ensures.holds g t h) in
    subst P same (rw c.if-not-args.true h1)

pub returns-then-args-now-clause-holds : goal.returns-then-args-now-clause-holds
unfolding timer_set
returns-then-args-now-clause-holds c = λ g t h.
    let i = c.args.caller in
    let x = c.of-args.result in
    let same : x ≡ timer_args (arguments t.state i) = c.of-args.ensures ∙ ap timer_args (c.arguments.ensures g t h) in
    let P : TimerArgs → Type 0 = λ y. Holds g c.go_on-then-args-now.new.self (cond (not y.set) (goes_on i (with_timer i None t)) (cond (leb y.deadline t.state.now) (goes_on i (posted i y.bits (with_timer i None t))) (goes_on i (with_timer i (Some record { deadline = y.deadline; bits = y.bits }) t)))) in
    let due : leb x.deadline t.state.now ≡ true = le-leb _ _ (rw (c.now.ensures.holds g t h) at c.if-args-now.true) in
    let h1 = c.post.ensures.holds g _ (c.set_timer-then-args-now.ensures.holds g t h) in
    let h2 = c.go_on-then-args-now.ensures.holds g _ h1 in
    subst P same (rw (c.if-not-args.false, due) h2)

pub returns-else-args-now-clause-holds : goal.returns-else-args-now-clause-holds
unfolding timer_set
returns-else-args-now-clause-holds c = λ g t h.
    let i = c.args.caller in
    let x = c.of-args.result in
    let same : x ≡ timer_args (arguments t.state i) = c.of-args.ensures ∙ ap timer_args (c.arguments.ensures g t h) in
    let P : TimerArgs → Type 0 = λ y. Holds g c.go_on-else-args-now.new.self (cond (not y.set) (goes_on i (with_timer i None t)) (cond (leb y.deadline t.state.now) (goes_on i (posted i y.bits (with_timer i None t))) (goes_on i (with_timer i (Some record { deadline = y.deadline; bits = y.bits }) t)))) in
    let later : leb x.deadline t.state.now ≡ false = lt-leb _ _ (rw (c.now.ensures.holds g t h) at c.if-args-now.false) in
    let h1 = c.go_on-else-args-now.ensures.holds g _ (c.set_timer-else-args-now.ensures.holds g t h) in
    subst P same (rw (c.if-not-args.false, later) h1)

use Rattle.std.proofs.Common.{◌∙◌, true, refl, sym, ap, subst}
use Rattle.mem_banks.specs.Memory.{Memory}
use Rattle.board_core.specs.Data.{boxed}
use Rattle.debug_core.specs.declared.command.Command.{Command}
use Rattle.debug_core.specs.Answers.{answer, bytes_from}
use Rattle.debug_core.specs.Runs.{state_at}
use Rattle.debug_core.specs.Session.{after}
use Rattle.debug_core.specs.Sessions.{IsSession}
use Rattle.debug_core.proofs.Ahead.{same_memory}
use Rattle.debug_core.proofs.Seen.{device_same, irq_same}
use Rattle.debug_core.proofs.debugger.Debugger.carry_out.Goals as goal

pub returns-in-Step-clause-session : goal.returns-in-Step-clause-session
returns-in-Step-clause-session boxes c = λ x s h.
    let shown = boxed (λ p. (goal.Device-dyn boxes p).shown p.1) in
    subst (λ (k : Command). IsSession shown x c.step.new.self (after x s k)) (sym c.in-Step.is) (c.step.ensures.session x s h)

pub returns-in-Back-clause-session : goal.returns-in-Back-clause-session
returns-in-Back-clause-session boxes c = λ x s h.
    let shown = boxed (λ p. (goal.Device-dyn boxes p).shown p.1) in
    subst (λ (k : Command). IsSession shown x c.back.new.self (after x s k)) (sym c.in-Back.is) (c.back.ensures.session x s h)

pub returns-in-Go-clause-session : goal.returns-in-Go-clause-session
returns-in-Go-clause-session boxes c = λ x s h.
    let shown = boxed (λ p. (goal.Device-dyn boxes p).shown p.1) in
    subst (λ (k : Command). IsSession shown x c.go.new.self (after x s k)) (sym c.in-Go.is) (c.go.ensures.session x s h)

pub returns-in-At-clause-session : goal.returns-in-At-clause-session
returns-in-At-clause-session boxes c = λ x s h.
    let shown = boxed (λ p. (goal.Device-dyn boxes p).shown p.1) in
    subst (λ (k : Command). IsSession shown x c.at.new.self (after x s k)) (sym c.in-At.is) (c.at.ensures.session x s h)

pub returns-in-GoFor-clause-session : goal.returns-in-GoFor-clause-session
returns-in-GoFor-clause-session boxes c = λ x s h.
    let shown = boxed (λ p. (goal.Device-dyn boxes p).shown p.1) in
    subst (λ (k : Command). IsSession shown x c.go_for.new.self (after x s k)) (sym c.in-GoFor.is) (c.go_for.ensures.session x s h)

pub returns-in-BackFor-clause-session : goal.returns-in-BackFor-clause-session
returns-in-BackFor-clause-session boxes c = λ x s h.
    let shown = boxed (λ p. (goal.Device-dyn boxes p).shown p.1) in
    subst (λ (k : Command). IsSession shown x c.back_for.new.self (after x s k)) (sym c.in-BackFor.is) (c.back_for.ensures.session x s h)

pub returns-in-Task-clause-session : goal.returns-in-Task-clause-session
returns-in-Task-clause-session boxes c = λ x s h.
    let shown = boxed (λ p. (goal.Device-dyn boxes p).shown p.1) in
    subst (λ (k : Command). IsSession shown x c.args.self.now (after x s k)) (sym c.in-Task.is) h

pub returns-in-Irq-clause-answer : goal.returns-in-Irq-clause-answer
returns-in-Irq-clause-answer boxes c = λ x s h.
    let u = h.at.state in
    c.irq.ensures x u.0 u.1 ∙ irq_same x.setup u.0 (state_at x s.cursor) c.in-Irq.line u.2 ∙ ap (answer x s) (sym c.in-Irq.is)

pub returns-in-Irq-clause-session : goal.returns-in-Irq-clause-session
returns-in-Irq-clause-session boxes c = λ x s h.
    let shown = boxed (λ p. (goal.Device-dyn boxes p).shown p.1) in
    subst (λ (k : Command). IsSession shown x c.args.self.now (after x s k)) (sym c.in-Irq.is) h

pub returns-in-Device-clause-answer : goal.returns-in-Device-clause-answer
returns-in-Device-clause-answer boxes c = λ x s h.
    let u = h.at.state in
    c.device.ensures x u.0 u.1 ∙ device_same u.0 (state_at x s.cursor) c.in-Device.k u.2 ∙ ap (answer x s) (sym c.in-Device.is)

pub returns-in-Device-clause-session : goal.returns-in-Device-clause-session
returns-in-Device-clause-session boxes c = λ x s h.
    let shown = boxed (λ p. (goal.Device-dyn boxes p).shown p.1) in
    subst (λ (k : Command). IsSession shown x c.args.self.now (after x s k)) (sym c.in-Device.is) h

pub returns-in-Mem-clause-answer : goal.returns-in-Mem-clause-answer
returns-in-Mem-clause-answer boxes c = λ x s h.
    let u = h.at.state in
    c.bytes.ensures x u.0 u.1
    ∙ ap (λ (m : Memory). bytes_from m c.in-Mem.at c.in-Mem.len) (same_memory u.0 (state_at x s.cursor) u.2)
    ∙ ap (answer x s) (sym c.in-Mem.is)

pub returns-in-Mem-clause-session : goal.returns-in-Mem-clause-session
returns-in-Mem-clause-session boxes c = λ x s h.
    let shown = boxed (λ p. (goal.Device-dyn boxes p).shown p.1) in
    subst (λ (k : Command). IsSession shown x c.args.self.now (after x s k)) (sym c.in-Mem.is) h

pub returns-in-Quit-clause-session : goal.returns-in-Quit-clause-session
returns-in-Quit-clause-session boxes c = λ x s h.
    let shown = boxed (λ p. (goal.Device-dyn boxes p).shown p.1) in
    subst (λ (k : Command). IsSession shown x (record c.args.self.now { is_over = true }) (after x s k)) (sym c.in-Quit.is)
    (record { at = h.at; breakpoints = h.breakpoints; over = refl })

use Rattle.std.proofs.Common.{◌≡◌, sym, ◌∙◌}
use Rattle.kernel_abi.specs.declared.Health.TheVariants.{Well, Stopped, Faulted}
use Rattle.task_table.specs.model.Reading.{task_at}
use Rattle.task_table.specs.model.Requests.{injected}
use Rattle.fault_supervisor.proofs.message.inject.Goals as goal

pub returns-in-Faulted-clause-holds : goal.returns-in-Faulted-clause-holds
unfolding injected
returns-in-Faulted-clause-holds c = λ g t h.
    let health : (task_at t.state c.args.task).health ≡ Faulted c.in-Faulted.field-0 = sym (c.health.ensures g t h) ∙ c.in-Faulted.is in
    rw health h

pub returns-in-Faulted-clause-stands : goal.returns-in-Faulted-clause-stands
unfolding injected
returns-in-Faulted-clause-stands c = λ g t h.
    let health : (task_at t.state c.args.task).health ≡ Faulted c.in-Faulted.field-0 = sym (c.health.ensures g t h.holds) ∙ c.in-Faulted.is in
    rw health h

pub returns-in-Well-clause-holds : goal.returns-in-Well-clause-holds
unfolding injected
returns-in-Well-clause-holds c = λ g t h.
    let health : (task_at t.state c.args.task).health ≡ Well = sym (c.health.ensures g t h) ∙ c.in-Well.is in
    let answered = rw c.injected.ensures at (c.fault.ensures.holds g t h) in
    rw health answered

pub returns-in-Well-clause-stands : goal.returns-in-Well-clause-stands
unfolding injected
returns-in-Well-clause-stands c = λ g t h.
    let health : (task_at t.state c.args.task).health ≡ Well = sym (c.health.ensures g t h.holds) ∙ c.in-Well.is in
    let answered = rw c.injected.ensures at (c.fault.ensures.stands g t h) in
    rw health answered

pub returns-in-Stopped-clause-holds : goal.returns-in-Stopped-clause-holds
unfolding injected
returns-in-Stopped-clause-holds c = λ g t h.
    let health : (task_at t.state c.args.task).health ≡ Stopped = sym (c.health.ensures g t h) ∙ c.in-Stopped.is in
    let answered = rw c.injected-in-Stopped.ensures at (c.fault-in-Stopped.ensures.holds g t h) in
    rw health answered

pub returns-in-Stopped-clause-stands : goal.returns-in-Stopped-clause-stands
unfolding injected
returns-in-Stopped-clause-stands c = λ g t h.
    let health : (task_at t.state c.args.task).health ≡ Stopped = sym (c.health.ensures g t h.holds) ∙ c.in-Stopped.is in
    let answered = rw c.injected-in-Stopped.ensures at (c.fault-in-Stopped.ensures.stands g t h) in
    rw health answered

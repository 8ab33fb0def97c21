use Rattle.task_table.specs.model.Reading.{dead_code_for}
use Rattle.ipc_core.proofs.receiving.receive_message.Goals as goal

pub returns-in-Some-clause-holds : goal.returns-in-Some-clause-holds
returns-in-Some-clause-holds c = λ g t h idle who.
    let w = rw c.in-Any.is at who in
    rw (w, c.in-Some.is) (c.receive_or_listen.ensures.holds g t h idle)

pub returns-in-None-clause-holds : goal.returns-in-None-clause-holds
returns-in-None-clause-holds c = λ g t h idle who.
    let w = rw c.in-Any.is at who in
    rw (w, c.in-None.is) (c.listen.ensures.holds g t h.holds idle)

pub returns-in-Kernel-clause-holds : goal.returns-in-Kernel-clause-holds
returns-in-Kernel-clause-holds c = λ g t h idle who.
    let w = rw c.in-Kernel.is at who in
    rw (w.0, w.1) (c.listen-in-Kernel.ensures.holds g t h.holds idle)

pub returns-in-Dead-clause-holds : goal.returns-in-Dead-clause-holds
unfolding dead_code_for
returns-in-Dead-clause-holds c = λ g t h idle who.
    let w = rw c.in-Dead.is at who in
    rw (w.0, w.1, w.3, ← w.4, ← c.dead_code.ensures) (c.answer.ensures.holds g t h.holds)

pub returns-in-One-clause-holds : goal.returns-in-One-clause-holds
returns-in-One-clause-holds c = λ g t h idle who.
    let w = rw c.in-One.is at who in
    rw (w.0, w.1, w.3, ← w.4) (c.receive_or_listen-in-One.ensures.holds g t h idle)

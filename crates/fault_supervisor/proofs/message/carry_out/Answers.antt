use Rattle.fault_supervisor.proofs.message.carry_out.Goals as goal

pub returns-in-Status-clause-holds : goal.returns-in-Status-clause-holds
returns-in-Status-clause-holds c = λ g t h.
    rw (c.in-Status.is, ← c.health.ensures g t h.holds, ← c.status_of-status.ensures) (c.store.ensures.holds g t h.holds)

pub returns-in-Restart-clause-holds : goal.returns-in-Restart-clause-holds
returns-in-Restart-clause-holds c = λ g t h.
    rw (c.in-Restart.is, ← c.number-start.ensures.holds g t h.holds) (c.restart.ensures.stands g t h).holds

pub returns-in-Fault-clause-holds : goal.returns-in-Fault-clause-holds
returns-in-Fault-clause-holds c = λ g t h. rw c.in-Fault.is (c.inject.ensures.holds g t h.holds)

pub returns-in-Find-clause-holds : goal.returns-in-Find-clause-holds
returns-in-Find-clause-holds c = λ g t h. rw c.in-Find.is (c.find_fault.ensures.holds g t h.holds)

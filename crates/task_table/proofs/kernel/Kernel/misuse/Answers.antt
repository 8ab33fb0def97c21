use Rattle.task_table.proofs.kernel.Kernel.misuse.Goals as goal

pub returns-clause-holds : goal.returns-clause-holds
returns-clause-holds c = λ g t h. rw c.usage.ensures at (c.fault.ensures.holds g t h)

pub returns-clause-stands : goal.returns-clause-stands
returns-clause-stands c = λ g t h. rw c.usage.ensures at (c.fault.ensures.stands g t h)

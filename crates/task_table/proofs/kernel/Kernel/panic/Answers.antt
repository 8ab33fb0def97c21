use Rattle.task_table.specs.model.Rows.{panicked}
use Rattle.task_table.proofs.kernel.Kernel.panic.Goals as goal

pub returns-clause-stands : goal.returns-clause-stands
unfolding panicked
returns-clause-stands c = λ g t h. rw (c.panic.ensures, c.register-r4.ensures g t h.holds, c.register-r5.ensures g t h.holds) at (c.fault.ensures.stands g t h)

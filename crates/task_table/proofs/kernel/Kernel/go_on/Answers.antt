use Rattle.task_table.proofs.kernel.Kernel.go_on.Goals as goal

pub returns-clause-holds : goal.returns-clause-holds
returns-clause-holds c = λ g t h. c.note_return.ensures.holds g _ (c.go_past_syscall.ensures.holds g t h)

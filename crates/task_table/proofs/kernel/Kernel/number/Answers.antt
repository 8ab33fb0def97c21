use Rattle.task_table.proofs.kernel.Kernel.number.Goals as goal

pub returns-clause-holds : goal.returns-clause-holds
returns-clause-holds c = λ g t h. rw (← h.memory) c.number.ensures

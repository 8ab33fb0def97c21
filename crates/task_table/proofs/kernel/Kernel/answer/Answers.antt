use Rattle.task_table.proofs.kernel.Kernel.answer.Goals as goal

pub returns-clause-holds : goal.returns-clause-holds
returns-clause-holds c = λ g t h. c.go_on.ensures.holds g _ (c.give.ensures.holds g t h)

use Rattle.task_table.proofs.kernel.Kernel.take_bits.Goals as goal

pub returns-clause-holds : goal.returns-clause-holds
returns-clause-holds c = λ g t h.
    rw (← c.posted_bits.ensures g t h) (c.answer.ensures.holds g _ (c.clear_bits.ensures.holds g t h))

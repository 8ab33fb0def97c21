use Rattle.fault_supervisor.proofs.message.find_fault.Goals as goal

pub returns-clause-holds : goal.returns-clause-holds
returns-clause-holds c = λ g t h.
    rw (← c.first_faulted-found.ensures.value g t h, ← c.word_bytes-answer.ensures) (c.note.ensures.holds g _ (c.store.ensures.holds g t h))

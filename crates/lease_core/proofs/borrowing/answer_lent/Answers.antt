use Rattle.lease_core.proofs.borrowing.answer_lent.Goals as goal

pub returns-clause-holds : goal.returns-clause-holds
returns-clause-holds c = λ g t h. rw (← c.borrow.ensures) (c.answer.ensures.holds g _ (c.note.ensures.holds g t h))

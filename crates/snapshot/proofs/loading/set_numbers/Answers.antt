use Rattle.snapshot.proofs.loading.set_numbers.Goals as goal

pub returns-clause-holds : goal.returns-clause-holds
returns-clause-holds g c = λ x s h.
    c.set_next_call.ensures.holds x _ (c.set_current.ensures.holds x _ (c.set_now.ensures.holds x _ (c.set_turns.ensures.holds x s h)))

use Rattle.std.proofs.Common.{◌≡◌, true, leb}
use Rattle.std.proofs.lemmas.Bool.{le-leb}
use Rattle.timer_irq.proofs.ticks.expire.Goals as goal

pub returns-then-timer-now-clause-holds : goal.returns-then-timer-now-clause-holds
returns-then-timer-now-clause-holds c = λ g t h.
    let due : leb c.in-Some.timer.deadline t.state.now ≡ true = le-leb _ _ (rw (c.now.ensures.holds g t h) at c.if-timer-now.true) in
    rw (← c.in-Some.ensures g t h, due) (c.post.ensures.holds g _ (c.set_timer.ensures.holds g t h))

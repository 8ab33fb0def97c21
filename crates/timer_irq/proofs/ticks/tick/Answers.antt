use Rattle.task_table.specs.model.Effects.{clocked}
use Rattle.task_table.specs.model.Events.{ticked}
use Rattle.task_table.proofs.model.Timing.{sane-ticked}
use Rattle.timer_irq.proofs.Idling.{length-clocked, not_past-clocked}
use Rattle.timer_irq.proofs.ticks.tick.Goals as goal

pub returns-clause-stands : goal.returns-clause-stands
unfolding ticked
returns-clause-stands c = λ g t h.
    let next = c.step_clock.ensures.holds g t h.holds in
    record { holds = rw (length-clocked t) at (c.expire_all.ensures.holds g (clocked t) next (not_past-clocked t h.sane.ahead)); sane = sane-ticked t h.sane }

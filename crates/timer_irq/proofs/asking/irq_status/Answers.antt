use Rattle.std.proofs.Common.{◌<◌, length, arith}
use Rattle.task_table.proofs.model.StepKeeps.{sane-irq_answered}
use Rattle.timer_irq.proofs.asking.irq_status.Goals as goal

pub returns-clause-stands : goal.returns-clause-stands
returns-clause-stands c = λ g t h ready a.
    let inside : c.args.caller < length t.state.tasks = omega (arith, c.requires.there, h.holds.count) in
    record { holds = c.irq_status_rows.ensures.holds g t h.holds a; sane = sane-irq_answered c.args.caller t h.sane inside }

use Rattle.std.proofs.Common.{◌<◌, length, arith}
use Rattle.task_table.proofs.model.StepKeeps.{sane-irq_controlled}
use Rattle.timer_irq.proofs.controlling.irq_control.Goals as goal

pub returns-clause-stands : goal.returns-clause-stands
returns-clause-stands c = λ g t h ready a.
    let inside : c.args.caller < length t.state.tasks = omega (arith, c.requires.there, h.holds.count) in
    record { holds = c.irq_control_rows.ensures.holds g t h.holds a; sane = sane-irq_controlled c.args.caller t h.sane inside }

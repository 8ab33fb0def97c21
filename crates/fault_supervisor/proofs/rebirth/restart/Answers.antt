use Rattle.std.proofs.Common.{◌<◌, length, arith}
use Rattle.task_table.proofs.model.Offering.{sane-restarted}
use Rattle.fault_supervisor.proofs.rebirth.restart.Goals as goal

pub returns-clause-stands : goal.returns-clause-stands
returns-clause-stands c = λ g t h.
    let inside : c.args.task < length t.state.tasks = omega (arith, c.requires.there, h.holds.count) in
    record { holds = c.restart_task.ensures.holds g t h; sane = sane-restarted c.args.task c.args.start t h.sane inside }

use Rattle.std.proofs.Common.{◌<◌, length, arith}
use Rattle.task_table.proofs.model.Sanity.{sane-faulted}
use Rattle.task_table.proofs.kernel.Kernel.fault.Goals as goal

pub returns-clause-holds : goal.returns-clause-holds
returns-clause-holds c = λ g t h. c.fault_as.ensures.holds g t h

pub returns-clause-stands : goal.returns-clause-stands
returns-clause-stands c = λ g t h.
    let inside : c.args.task < length t.state.tasks = omega (arith, c.requires.there, h.holds.count) in
    record { holds = c.fault_as.ensures.holds g t h.holds; sane = sane-faulted c.args.task c.args.fault t h.sane inside c.requires.from_one c.requires.to_ten }

use Rattle.std.proofs.Common.{◌<◌, length, arith}
use Rattle.task_table.proofs.model.Frames.{idle-ready}
use Rattle.task_table.proofs.model.StepKeeps.{sane-received}
use Rattle.ipc_core.proofs.receiving.recv.Goals as goal

pub recv_rows-requires-clause-stood : goal.recv_rows-requires-clause-stood
recv_rows-requires-clause-stood c = let r = c.requires.may_call.ready in (r.0, r.1, r.2)

pub returns-clause-stands : goal.returns-clause-stands
returns-clause-stands c = λ g t h ready best.
    let inside : c.args.caller < length t.state.tasks = omega (arith, c.requires.may_call.there, h.holds.count) in
    record { holds = c.recv_rows.ensures.holds g t h (idle-ready t.state c.args.caller ready); sane = sane-received c.args.caller t h.sane inside ready c.args.best best }

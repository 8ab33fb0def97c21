use Rattle.std.proofs.Common.{◌<◌, length, arith}
use Rattle.task_table.proofs.model.Frames.{idle-ready}
use Rattle.task_table.proofs.model.StepKeeps.{sane-sent}
use Rattle.ipc_core.proofs.sending.send.Goals as goal

pub send_rows-requires-clause-idle : goal.send_rows-requires-clause-idle
send_rows-requires-clause-idle c = let r = c.requires.may_call.ready in (r.0, r.1, r.2, idle-ready r.1.state c.args.caller r.3)

pub returns : goal.returns
returns c =
    record {
      stands = λ g t h ready.
          let inside : c.args.caller < length t.state.tasks = omega (arith, c.requires.may_call.there, h.holds.count) in
          record { holds = c.send_rows.ensures.holds g t h (idle-ready t.state c.args.caller ready); sane = sane-sent c.args.caller t h.sane inside ready };
      frame = c.send_rows.ensures.frame;
    }

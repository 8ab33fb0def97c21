use Rattle.std.proofs.Common.{◌<◌, length, arith}
use Rattle.task_table.proofs.model.StepKeeps.{sane-reply_faulted}
use Rattle.ipc_core.proofs.replying.reply_fault.Goals as goal

pub returns : goal.returns
returns c =
    record {
      stands = λ g t h ready.
          let inside : c.args.caller < length t.state.tasks = omega (arith, c.requires.there, h.holds.count) in
          record { holds = c.reply_fault_rows.ensures.holds g t h; sane = sane-reply_faulted c.args.caller t h.sane inside };
      frame = c.reply_fault_rows.ensures.frame;
    }

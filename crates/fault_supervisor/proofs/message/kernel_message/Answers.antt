use Rattle.std.proofs.Common.{◌<◌, length, arith}
use Rattle.task_table.proofs.model.StepKeeps.{sane-requested}
use Rattle.fault_supervisor.proofs.message.kernel_message.Goals as goal

pub returns : goal.returns
returns c =
    record {
      stands = λ g t h ready.
          let inside : c.args.caller < length t.state.tasks = omega (arith, c.requires.there, h.holds.count) in
          record { holds = c.kernel_message_rows.ensures.holds g t h; sane = sane-requested c.args.caller t h.sane inside };
      frame = c.kernel_message_rows.ensures.frame;
    }

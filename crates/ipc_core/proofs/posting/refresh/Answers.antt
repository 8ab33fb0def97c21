use Rattle.std.proofs.Common.{◌<◌, length, arith}
use Rattle.task_table.proofs.model.StepKeeps.{sane-refreshed}
use Rattle.ipc_core.proofs.posting.refresh.Goals as goal

pub returns : goal.returns
returns c =
    record {
      stands = λ g t h ready.
          let inside : c.args.caller < length t.state.tasks = omega (arith, c.requires.there, h.holds.count) in
          record { holds = c.refresh_rows.ensures.holds g t h.holds; sane = sane-refreshed c.args.caller t h.sane inside };
      frame = c.refresh_rows.ensures.frame;
    }

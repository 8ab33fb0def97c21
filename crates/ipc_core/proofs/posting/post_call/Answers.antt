use Rattle.std.proofs.Common.{◌<◌, length, arith}
use Rattle.task_table.proofs.model.StepKeeps.{sane-post_made}
use Rattle.ipc_core.proofs.posting.post_call.Goals as goal

pub returns : goal.returns
returns c =
    record {
      stands = λ g t h ready.
          let inside : c.args.caller < length t.state.tasks = omega (arith, c.requires.there, h.holds.count) in
          record { holds = c.post_rows.ensures.holds g t h.holds; sane = sane-post_made c.args.caller t h.sane inside };
      frame = c.post_rows.ensures.frame;
    }

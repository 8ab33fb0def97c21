use Rattle.std.proofs.Common.{◌<◌, length, arith}
use Rattle.task_table.proofs.model.StepKeeps.{sane-replied}
use Rattle.ipc_core.proofs.replying.reply.Goals as goal

pub reply_rows-requires-clause-stood : goal.reply_rows-requires-clause-stood
reply_rows-requires-clause-stood c = let r = c.requires.ready in (r.0, r.1, r.2)

pub returns : goal.returns
returns c =
    record {
      stands = λ g t h ready.
          let inside : c.args.caller < length t.state.tasks = omega (arith, c.requires.there, h.holds.count) in
          record { holds = c.reply_rows.ensures.holds g t h; sane = sane-replied c.args.caller t h.sane inside };
      frame = c.reply_rows.ensures.frame;
    }

use Rattle.std.proofs.Common.{◌<◌, length, arith}
use Rattle.task_table.proofs.model.StepKeeps.{sane-timer_set}
use Rattle.timer_irq.proofs.timers.set_timer.Goals as goal

pub returns : goal.returns
returns c =
    record {
      stands = λ g t h ready.
          let inside : c.args.caller < length t.state.tasks = omega (arith, c.requires.there, h.holds.count) in
          record { holds = c.set_timer_rows.ensures.holds g t h.holds; sane = sane-timer_set c.args.caller t h.sane inside };
      frame = c.set_timer_rows.ensures.frame;
    }

use Rattle.std.proofs.Common.{◌<◌, length, arith}
use Rattle.task_table.specs.model.Rows.{timer_answered}
use Rattle.task_table.proofs.model.StepKeeps.{sane-timer_answered}
use Rattle.timer_irq.proofs.timers.get_timer.Goals as goal

pub returns : goal.returns
unfolding timer_answered
returns c =
    let told = c.answer.ensures in
    record {
      stands = λ g t h ready.
          let inside : c.args.caller < length t.state.tasks = omega (arith, c.requires.there, h.holds.count) in
          record { holds = rw (c.timer_results-words.ensures, c.now.ensures.holds g t h.holds, c.timer.ensures g t h.holds) at told.holds g t h.holds; sane = sane-timer_answered c.args.caller t h.sane inside };
      frame = record { notes = omega (arith, told.frame.notes); tasks = told.frame.tasks; setup = told.frame.setup };
    }

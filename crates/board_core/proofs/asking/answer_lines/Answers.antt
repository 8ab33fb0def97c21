use Rattle.std.proofs.Common.{sym, subst}
use Rattle.timer_irq.specs.Midway.{AreAsked}
use Rattle.board_core.proofs.asking.answer_lines.Goals as goal

pub returns : goal.returns
returns boxes c =
    record {
      stands = λ g t st devices ready. c.irq_status.ensures.stands g t st ready (subst (AreAsked g t) (sym c.deref.ensures.0) (c.asked-asked.ensures g t st.holds (sym devices)));
      frame = c.irq_status.ensures.frame;
    }

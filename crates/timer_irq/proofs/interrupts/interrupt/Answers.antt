use Rattle.std.proofs.Common.{arith, sym}
use Rattle.task_table.specs.kept.Parts.{line_setup}
use Rattle.task_table.specs.model.Events.{interrupted}
use Rattle.task_table.proofs.model.Timing.{owner_there, sane-interrupted}
use Rattle.timer_irq.proofs.interrupts.interrupt.Goals as goal

pub interrupt_owned-requires-clause-there : goal.interrupt_owned-requires-clause-there
interrupt_owned-requires-clause-there c =
    let g = c.requires.stood.0 in
    let t = c.requires.stood.1 in
    let h = c.requires.stood.2 in
    let there = owner_there c.args.line (line_setup c.in-Some.owner) t.state h.sane (sym (c.in-Some.ensures g t h.holds)) in
    omega (arith, there, h.holds.count)

pub returns-in-Some-clause-stands : goal.returns-in-Some-clause-stands
unfolding interrupted
returns-in-Some-clause-stands c = λ g t h. record {
  holds = rw (← c.in-Some.ensures g t h.holds) (c.interrupt_owned.ensures.holds g t h.holds);
  sane = sane-interrupted c.args.line t h.sane;
}

pub returns-in-None-clause-stands : goal.returns-in-None-clause-stands
unfolding interrupted
returns-in-None-clause-stands c = λ g t h. record {
  holds = rw (← c.in-None.ensures g t h.holds) (c.note.ensures.holds g t h.holds);
  sane = sane-interrupted c.args.line t h.sane;
}

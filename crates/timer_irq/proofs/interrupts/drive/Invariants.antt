use Rattle.std.proofs.Common.{◌*◌, take}
use Rattle.std.specs.Prelude.{fold}
use Rattle.task_table.specs.model.State.{Setup, Turn}
use Rattle.task_table.specs.model.Events.{driven_by}
use Rattle.task_table.specs.kept.Holds.{Stands, StandsForSome}
use Rattle.task_table.specs.kept.Frames.{AddsAtMost}
use Rattle.timer_irq.specs.Midway.{AreAsked}
use Rattle.timer_irq.proofs.interrupts.drive.Given as goal

-- so far the lines of the first owners are driven
abbrev pub invariant-loop-i : goal.invariant-loop-i
invariant-loop-i l = record {
  frame : AddsAtMost l.initial.k (3 * l.i) l.k;
  stood : StandsForSome l.k;
  stands : (g : Setup) (t : Turn) → Stands g l.initial.k t → AreAsked g t l.asked → Stands g l.k (fold (driven_by t.state.devices) t (take l.i g.lines));
}

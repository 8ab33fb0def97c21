use Rattle.std.proofs.Common.{◌*◌, take}
use Rattle.std.specs.Prelude.{filter, fold}
use Rattle.task_table.specs.model.State.{Setup, Turn}
use Rattle.task_table.specs.model.Asking.{is_asked}
use Rattle.task_table.specs.model.Rows.{owns_with, line_controlled}
use Rattle.task_table.specs.kept.Holds.{Holds}
use Rattle.task_table.specs.kept.Frames.{AddsAtMost}
use Rattle.timer_irq.specs.Midway.{AreAsked}
use Rattle.timer_irq.proofs.controlling.control_all.Given as goal

-- so far the lines of the first owners are done
abbrev pub invariant-loop-i : goal.invariant-loop-i
invariant-loop-i l = record {
  frame : AddsAtMost l.initial.k (2 * l.i) l.k;
  holds : (g : Setup) (t : Turn) → Holds g l.initial.k t → AreAsked g t l.asked → Holds g l.k (fold (λ u o. line_controlled l.caller l.bits l.enable (is_asked t.state o) o.line u) t (filter (owns_with l.caller l.bits) (take l.i g.lines)));
}

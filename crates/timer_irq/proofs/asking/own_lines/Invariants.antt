use Rattle.std.proofs.Common.{◌≡◌, map, take}
use Rattle.std.specs.Prelude.{filter}
use Rattle.task_table.specs.model.State.{Setup, Turn}
use Rattle.task_table.specs.kept.Parts.{line_setup}
use Rattle.task_table.specs.model.Rows.{owns_with}
use Rattle.task_table.specs.kept.Holds.{Holds}
use Rattle.timer_irq.specs.Midway.{AreAsked, lines_together}
use Rattle.timer_irq.proofs.asking.own_lines.Given as goal

-- so far the line is that of the first owners together
abbrev pub invariant-loop-i : goal.invariant-loop-i
invariant-loop-i l = (g : Setup) (t : Turn) → Holds g l.k t → AreAsked g t l.asked → l.together ≡ lines_together t.state (filter (owns_with l.caller l.bits) (take l.i (map line_setup l.owners)))

use Rattle.std.proofs.Common.{take}
use Rattle.run_lanes.specs.Counted.{Changed, marked}
use Rattle.run_lanes.proofs.cells.mark_all.Given as goal

abbrev pub invariant-loop-note : goal.invariant-loop-note
invariant-loop-note l = Changed l.fn.cells l.cells l.at l.tasks (marked (take l.note-index l.notes))

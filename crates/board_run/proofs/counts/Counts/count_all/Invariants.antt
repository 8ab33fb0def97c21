use Rattle.std.proofs.Common.{take}
use Rattle.board_model.specs.Run.{at_turn}
use Rattle.board_run.specs.Counting.{HaveGrown}
use Rattle.board_run.proofs.counts.Counts.count_all.Given as goal

abbrev pub invariant-loop-note : goal.invariant-loop-note
invariant-loop-note l = HaveGrown l.fn.self (at_turn l.turn (take l.note-index l.notes)) l.self

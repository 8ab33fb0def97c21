use Rattle.std.proofs.Common.{take}
use Rattle.board_model.specs.Run.{at_turn}
use Rattle.run_cover.specs.Counted.{Heard}
use Rattle.run_cover.proofs.counts.PlaceCounts.hear_all.Given as goal

abbrev pub invariant-loop-note : goal.invariant-loop-note
invariant-loop-note l = Heard l.fn.self (at_turn l.turn (take l.note-index l.notes)) l.self

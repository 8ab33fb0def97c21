use Rattle.std.proofs.Common.{◌≡◌, ℕ, List, ◌++◌, take}
use Rattle.std.specs.Prelude.{vec_capacity}
use Rattle.lane_picture.specs.declared.parts.Arrow.{Arrow}
use Rattle.run_lanes.specs.First.{IsFirst}
use Rattle.run_lanes.specs.Told.{arrows_of_notes, calls_at_end_of}
use Rattle.run_lanes.proofs.exchange.Exchange.add.Given as goal

abbrev pub invariant-loop-note : goal.invariant-loop-note
invariant-loop-note l = record {
  calls : l.self.calls.items ≡ calls_at_end_of l.turn l.fn.self.calls.items (take l.note-index l.notes);
  arrows : (most : ℕ) (xs : List Arrow) → IsFirst most l.fn.self.arrows.kept.items (vec_capacity l.fn.self.arrows.kept) l.fn.self.arrows.all xs →
      IsFirst most l.self.arrows.kept.items (vec_capacity l.self.arrows.kept) l.self.arrows.all (xs ++ arrows_of_notes l.turn l.notes l.fn.self.calls.items (take l.note-index l.notes));
}

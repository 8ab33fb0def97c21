use Rattle.std.proofs.Common.{ℕ, List, ◌++◌, map, take}
use Rattle.std.specs.Prelude.{filter, vec_capacity}
use Rattle.run_lanes.specs.First.{IsFirst}
use Rattle.run_lanes.specs.Told.{TurnNote, is_event}
use Rattle.run_lanes.proofs.events.add_events.Given as goal

abbrev pub invariant-loop-note : goal.invariant-loop-note
invariant-loop-note l = (most : ℕ) (xs : List TurnNote) → IsFirst most l.fn.events.kept.items (vec_capacity l.fn.events.kept) l.fn.events.all xs →
    IsFirst most l.events.kept.items (vec_capacity l.events.kept) l.events.all (xs ++ map (λ n. (l.turn, n)) (filter is_event (take l.note-index l.notes)))

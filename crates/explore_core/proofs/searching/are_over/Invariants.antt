use Rattle.std.proofs.Common.{ℕ, ◌≡◌, ◌+◌, ◌<◌, Some, map, false}
use Rattle.std.specs.List.{All}
use Rattle.std.specs.Prelude.{slice_get, slice_index_or}
use Rattle.run_question.specs.Questions.{arrival_data}
use Rattle.explore_core.specs.declared.ways.Way.{Way}
use Rattle.explore_core.specs.Schedules.{Arrival}
use Rattle.explore_core.specs.Ways.{way_at}
use Rattle.explore_core.proofs.searching.are_over.Given as goal

abbrev pub invariant-loop-place : goal.invariant-loop-place
invariant-loop-place l =
    (k : ℕ) → k < l.place → (a : Arrival) (way : Way) → slice_get (map arrival_data l.arrivals) k ≡ Some a → slice_index_or l.pending k false ≡ false → way_at l.ways k ≡ Some way →
    All (λ o. way.turn + o.turn < l.turn) a.offers

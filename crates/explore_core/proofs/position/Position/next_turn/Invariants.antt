use Rattle.std.proofs.Common.{ℕ, ◌≡◌, ◌<◌, ◌≤◌, true, false, map, Some}
use Rattle.std.specs.Prelude.{slice_get, slice_index_or}
use Rattle.run_question.specs.Questions.{arrival_data}
use Rattle.explore_core.specs.Schedules.{Arrival}
use Rattle.explore_core.proofs.position.Position.next_turn.Given as goal

abbrev pub invariant-loop-place : goal.invariant-loop-place
invariant-loop-place l = record {
  later : l.turn < l.next;
  within : l.next ≤ l.far;
  none : (k : ℕ) → k < l.place → (a : Arrival) → slice_get (map arrival_data l.arrivals) k ≡ Some a → slice_index_or l.self.pending k false ≡ true → (t : ℕ) → l.turn < t → t < l.next → t < a.first;
}

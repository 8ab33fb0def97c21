use Rattle.std.proofs.Common.{ℕ, ◌≡◌, ◌≤◌, ◌<◌, length, map}
use Rattle.run_question.specs.Questions.{arrival_data}
use Rattle.explore_core.specs.Searching.{earliest_at}
use Rattle.explore_core.specs.Ways.{way_at}
use Rattle.explore_core.proofs.searching.earliest_ways.Given as goal

abbrev pub invariant-loop-place : goal.invariant-loop-place
invariant-loop-place l = record {
  long : length l.earliest ≡ 8;
  before : (k : ℕ) → k < l.place → way_at l.earliest k ≡ earliest_at (map arrival_data l.arrivals) l.pending l.from l.ways k;
  behind : (k : ℕ) → l.place ≤ k → way_at l.earliest k ≡ way_at l.ways k;
}

use Rattle.std.proofs.Common.{ℕ, ◌≡◌, ◌<◌, ◌≤◌, length}
use Rattle.std.specs.Prelude.{slice_index}
use Rattle.explore_core.specs.Watching.{number_at, watched_of}
use Rattle.explore_core.proofs.watch.Watch.numbers.Given as goal

abbrev pub invariant-loop-place : goal.invariant-loop-place
invariant-loop-place l = record {
  long : length l.numbers ≡ 16;
  before : (k : ℕ) → k < l.place → slice_index l.numbers k ≡ number_at (watched_of l.self) k;
  behind : (k : ℕ) → l.place ≤ k → slice_index l.numbers k ≡ 0;
}

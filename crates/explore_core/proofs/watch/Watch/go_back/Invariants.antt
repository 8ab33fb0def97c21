use Rattle.std.proofs.Common.{ℕ, ◌≡◌, ◌<◌, ◌≤◌, length}
use Rattle.std.specs.Prelude.{option_map, slice_get, slice_index}
use Rattle.explore_core.specs.Watching.{numbered, watched_of}
use Rattle.explore_core.proofs.watch.Watch.go_back.Given as goal

abbrev pub invariant-loop-place : goal.invariant-loop-place
invariant-loop-place l = record {
  long : length l.self.properties.items ≡ length l.fn.self.properties.items;
  before : (k : ℕ) → k < l.place → slice_get (watched_of l.self) k ≡ option_map (numbered (slice_index l.numbers k)) (slice_get (watched_of l.fn.self) k);
  behind : (k : ℕ) → l.place ≤ k → slice_get (watched_of l.self) k ≡ slice_get (watched_of l.fn.self) k;
}

use Rattle.std.proofs.Common.{ℕ, ◌≡◌, ◌≤◌, ◌<◌, None, Some, cond, length, map, get_or}
use Rattle.std.specs.Prelude.{slice_index_or}
use Rattle.std.specs.Option.{option_or}
use Rattle.explore_core.specs.Watching.{Judged, is_open, judged}
use Rattle.explore_core.proofs.searching.write_broken.Given as goal

abbrev pub invariant-loop-place : goal.invariant-loop-place
invariant-loop-place l = record {
  long : length l.found ≡ 16;
  before : (k : ℕ) (w : Judged) → k < l.place → slice_index_or l.found k None ≡ option_or (slice_index_or l.fn.found k None) (cond (is_open (get_or (map judged l.watched) k w).1) None (Some l.ways));
  behind : (k : ℕ) → l.place ≤ k → slice_index_or l.found k None ≡ slice_index_or l.fn.found k None;
}

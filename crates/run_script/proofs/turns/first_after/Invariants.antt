use Rattle.std.proofs.Common.{length, ◌-◌, ◌≡◌, ◌≤◌, ◌+◌, ◌<◌, nat_lt, ℕ, slice_index_or, true}
use Rattle.run_script.specs.Scripts.{Listed}
use Rattle.run_script.proofs.turns.first_after.Given as goal

-- each one that was passed is of this turn or an earlier one
abbrev pub invariant-on : goal.invariant-on
invariant-on l = record {
  events : l.events ≡ l.fn.script.events.items;
  within : l.at ≤ length l.events;
  before : (k : ℕ) (d : Listed) → k < l.at → nat_lt (slice_index_or l.events k d).0 (l.fn.turn + 1) ≡ true;
}

abbrev pub decreases-on : goal.decreases-on
decreases-on l = length l.events - l.at

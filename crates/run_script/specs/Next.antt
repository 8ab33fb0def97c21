-- The next turn in which something happens, by what happens in each.
use Rattle.std.specs.Prelude.{ℕ, ◌≡◌, ◌≢◌, ◌≤◌, ◌<◌, List, [], Option, Some, None}
use Rattle.run_script.specs.declared.events.Event.{Event}

-- the next one from this turn on, below 1,000,000,000
abbrev pub IsNextBy : (ℕ → List Event) → ℕ → Option ℕ → Type 0
IsNextBy happens from None = (turn : ℕ) → from ≤ turn → turn < 1000000000 → happens turn ≡ []
IsNextBy happens from (Some next) = (from ≤ next) × (next < 1000000000) × (happens next ≢ []) × ((turn : ℕ) → from ≤ turn → turn < next → happens turn ≡ [])

-- Comparing outcomes one after the other, each with the first one.
use Rattle.std.specs.Prelude.{ℕ, zero, suc, ◌+◌, Bool, false, not, ◌||◌, List, Option, Some, None, bytes_eq, if◌then◌else◌}
use Rattle.std.specs.Option.{option_map}
use Rattle.arrayvec.specs.ArrayString.{ArrayString}
use Rattle.board_model.specs.Script.{Scenario}
use Rattle.sweep_core.specs.declared.comparing.Compared.{Compared}
use Rattle.sweep_core.specs.Swept.{Asking, arrival_run, base_run, is_made, is_worse, outcome_at}

-- the first outcome, and whether a difference was found
pub record Comparison : Type 0 where
  pub first : Option (List ℕ)
  pub found : Bool

abbrev pub words_of : Option ArrayString → Option (List ℕ)
words_of first = option_map (λ o. o.bytes) first

abbrev pub compared_of : Compared → Comparison
compared_of c = record { first = words_of c.first; found = c.found }

abbrev pub nothing_compared : Comparison
nothing_compared = record { first = None; found = false }

abbrev pub differs_from : Option (List ℕ) → List ℕ → Bool
differs_from None words = false
differs_from (Some first) words = not (bytes_eq words first)

abbrev pub first_or : Option (List ℕ) → List ℕ → Option (List ℕ)
first_or None words = Some words
first_or (Some first) words = Some first

-- The comparison after one more outcome. `worse` says whether its run is worse than the run without an
-- arrival.
abbrev pub with_outcome : Comparison → Bool → List ℕ → Comparison
with_outcome c worse words = record { first = first_or c.first words; found = (c.found || worse) || differs_from c.first words }

-- the comparison after one more arrival time, if a run of it is made
abbrev pub with_time : Scenario → Asking → Comparison → ℕ → Comparison
with_time x a c time = if is_made x a time then with_outcome c (is_worse (base_run x a) (arrival_run x a time)) (outcome_at x a time) else c

-- the comparison of the first n arrival times
unfoldable pub compared_times : Scenario → Asking → ℕ → Comparison
compared_times x a zero = nothing_compared
compared_times x a (suc n) = with_time x a (compared_times x a n) (a.from + n)

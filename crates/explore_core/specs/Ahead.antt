-- Schedules that are one up to a turn.
use Rattle.std.specs.Prelude.{ℕ, ◌≡◌, ◌⊎◌, ◌&&◌, nat_le, nat_lt, Bool, true, false, length, Option, Some, None}
use Rattle.std.specs.List.{AllZip}
use Rattle.explore_core.specs.Schedules.{Coming, Schedule}

-- it comes in this turn or later, and something does then
abbrev pub is_to_come : ℕ → Option Coming → Bool
is_to_come turn None = false
is_to_come turn (Some c) = nat_le turn c.turn && nat_lt 0 (length c.events)

-- each arrival comes in the same way in both, or is still to come in both before this turn
abbrev pub AreSameBefore : ℕ → Schedule → Schedule → Type 0
AreSameBefore turn one other = AllZip (λ v w. (v ≡ w) ⊎ ((is_to_come turn v ≡ true) × (is_to_come turn w ≡ true))) one other

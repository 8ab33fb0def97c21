-- Schedules that are one from a turn on.
use Rattle.std.specs.Prelude.{ℕ, ◌≡◌, ◌+◌, ◌<◌, ◌⊎◌, ⊤, Option, Some, None}
use Rattle.std.specs.List.{All, AllZip}
use Rattle.explore_core.specs.Schedules.{Coming, Schedule}

-- all that comes with it comes before this turn
abbrev pub IsOver : ℕ → Option Coming → Type 0
IsOver turn None = ⊤
IsOver turn (Some c) = All (λ d. c.turn + d.0 < turn) c.events

-- each arrival comes in the same way in both, or is over before this turn in one and does not come in the other
abbrev pub AreSameFrom : ℕ → Schedule → Schedule → Type 0
AreSameFrom turn one other = AllZip (λ v w. (v ≡ w) ⊎ (IsOver turn v × (w ≡ None))) one other

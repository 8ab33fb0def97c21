-- Which arrivals come, by bits.
use Rattle.std.specs.Prelude.{ℕ, ◌+◌, ◌/◌, ◌%◌, ◌^◌, ◌==◌, List, length, filter}
use Rattle.std.specs.List.{flat_map, range_with_len}
use Rattle.explore_core.specs.Schedules.{Arrival}
use Rattle.explore_core.specs.Walked.{Placed, parties, placed}

-- the arrivals of which a number has a bit, the lowest one for the first
abbrev pub party_of : List Arrival → ℕ → List Placed
party_of arrivals bits = filter (λ p. bits / 2 ^ p.0 % 2 == 1) (placed arrivals 0)

-- the sets of arrivals that come, in the order of the search
abbrev pub parties_of : List Arrival → List (List Placed)
parties_of arrivals = flat_map (λ some. parties some (placed arrivals 0)) (range_with_len 0 (length arrivals + 1))

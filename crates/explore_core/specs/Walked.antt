-- The schedules in their order: those in which fewer arrivals come before those with more; and of the same arrivals by the turns in which they
-- come, then by their places, then by their bytes (docs/EXPLORE.md, Exploration).
use Rattle.std.specs.Prelude.{ℕ, zero, suc, ◌+◌, ◌==◌, ◌&&◌, nat_le, nat_lt, Bool, if◌then◌else◌, List, [], ◌∷◌, ◌++◌, length, map, find, Option, max}
use Rattle.std.specs.List.{flat_map, range_with_len}
use Rattle.std.specs.Option.{option_map}
use Rattle.explore_core.specs.Schedules.{Arrival, Coming, Schedule, comings}

-- an arrival at its place
abbrev pub Placed : Type 0
Placed = ℕ × Arrival

-- arrivals that come, in the order in which they do, each with its place
abbrev pub Course : Type 0
Course = List (ℕ × Coming)

abbrev pub may_come_in : Arrival → ℕ → Bool
may_come_in a turn = nat_le a.first turn && nat_lt turn a.below

-- the ways in which one comes in a turn
abbrev pub comings_in : Arrival → ℕ → List Coming
comings_in a turn = if may_come_in a turn then comings a turn else []

-- all courses in which this one comes first
abbrev pub begun_by : ℕ → List Coming → List Course → List Course
begun_by place ways rest = flat_map (λ c. map (λ course. (place, c) ∷ course) rest) ways

-- the courses from a turn on in which some of the arrivals that are not passed over come in that turn, and those that are passed over later;
-- and then those in which none of them does. What comes later goes by `next`
unfoldable pub courses_in : (List Placed → List Course) → ℕ → List Placed → List Placed → List Course
courses_in next turn passed [] = next passed
courses_in next turn passed (p ∷ rest) =
    begun_by p.0 (comings_in p.1 turn) (courses_in next turn passed rest) ++ courses_in next turn (passed ++ p ∷ []) rest

-- the courses of arrivals that come in one of so many turns from a turn on
unfoldable pub courses : ℕ → ℕ → List Placed → List Course
courses left turn [] = [] ∷ []
courses zero turn (p ∷ ps) = []
courses (suc left) turn (p ∷ ps) = courses_in (courses left (turn + 1)) turn [] (p ∷ ps)

-- ## which come

abbrev pub placed : List Arrival → ℕ → List Placed
placed [] place = []
placed (a ∷ rest) place = (place, a) ∷ placed rest (place + 1)

-- so many of those that may fail, and all others, the earlier ones first
unfoldable pub parties : ℕ → List Placed → List (List Placed)
parties zero [] = [] ∷ []
parties (suc some) [] = []
parties zero (p ∷ rest) = if p.1.may_fail then parties zero rest else map (λ more. p ∷ more) (parties zero rest)
parties (suc some) (p ∷ rest) =
    if p.1.may_fail then map (λ more. p ∷ more) (parties some rest) ++ parties (suc some) rest
    else map (λ more. p ∷ more) (parties (suc some) rest)

-- no turn from this one on is in a range
abbrev pub end_of : List Arrival → ℕ
end_of [] = 0
end_of (a ∷ rest) = max a.below (end_of rest)

abbrev pub courses_of : List Arrival → List Course
courses_of arrivals = flat_map (λ some. flat_map (courses (end_of arrivals) 0) (parties some (placed arrivals 0))) (range_with_len 0 (length arrivals + 1))

-- ## a course is a schedule

abbrev pub comes_at : ℕ → Course → Option Coming
comes_at place course = option_map (λ c. c.1) (find (λ c. c.0 == place) course)

abbrev pub schedule_of : List Arrival → Course → Schedule
schedule_of arrivals course = map (λ p. comes_at p.0 course) (placed arrivals 0)

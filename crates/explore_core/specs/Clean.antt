-- States from which nothing is broken that is still looked for, however the arrivals come that are still to come.
use Rattle.std.specs.Prelude.{ℕ, ◌≡◌, ◌-◌, List, slice_index, Contains, Option, None}
use Rattle.task_table.specs.model.State.{State}
use Rattle.snapshot.specs.Loaded.{IsSpelledBy}
use Rattle.run_question.specs.declared.asked.Property.{Property}
use Rattle.explore_core.specs.Answers.{Asking}
use Rattle.explore_core.specs.Kept.{broken_from}
use Rattle.explore_core.specs.Schedules.{scheduled}
use Rattle.explore_core.specs.Walked.{Course, Placed, courses, end_of, schedule_of}

-- the courses of arrivals that come from a turn on
abbrev pub courses_from : Asking → ℕ → List Placed → List Course
courses_from a turn pending = courses (end_of a.question.arrivals - turn) turn pending

-- in which turn a run breaks a property, that has come to a state of which so much was kept, and goes on with a course. What came
-- before is over there
abbrev pub breaks_on : Asking → Property → Course → ℕ → State → Option ℕ
breaks_on a p course kept s = broken_from p (scheduled a.scenario (schedule_of a.question.arrivals course)) (a.limit - s.turn) kept s

-- no run from there breaks a property that is looked for: each has its place, and so its number of those that are kept
abbrev pub IsClean : Asking → List (ℕ × Property) → List Placed → List ℕ → State → Type 0
IsClean a live pending kept s =
    (course : Course) → Contains (courses_from a s.turn pending) course → (p : ℕ × Property) → Contains live p → breaks_on a p.1 course (slice_index kept p.0) s ≡ None

-- of each state that the bytes spell
abbrev pub AreClean : Asking → List (ℕ × Property) → List Placed → List ℕ → List ℕ → Type 0
AreClean a live pending kept bytes = (s : State) → IsSpelledBy a.scenario bytes s → IsClean a live pending kept s

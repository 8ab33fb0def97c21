-- What is watched of a run: each property that is asked, with its verdict so far.
use Rattle.std.specs.Prelude.{ℕ, ◌+◌, Bool, true, false, List, [], ◌∷◌, map, Option, Some, None, slice_get}
use Rattle.std.specs.List.{All, list_any}
use Rattle.task_table.specs.model.State.{State}
use Rattle.board_model.specs.declared.outcomes.End.{End}
use Rattle.board_model.specs.Script.{Scenario}
use Rattle.run_question.specs.declared.asked.Property.{Property}
use Rattle.explore_core.specs.declared.verdict.Verdict.{Verdict}
use Rattle.explore_core.specs.declared.verdict.Verdict.TheVariants.{Open, Broken}
use Rattle.explore_core.specs.declared.watch.Watch.{Watch}
use Rattle.explore_core.specs.declared.watch.Watched.{Watched}
use Rattle.explore_core.specs.Kept.{on_state}
use Rattle.explore_core.specs.There.{AreThere, byte_before}
use Rattle.explore_core.specs.Verdicts.{ended, stepped, unless_broken}

-- a property and its verdict
abbrev pub Judged : Type 0
Judged = Property × Verdict

abbrev pub judged : Watched → Judged
judged w = (w.property, w.verdict)

abbrev pub watched_of : Watch → List Judged
watched_of w = map judged w.properties.items

-- what they ask of a state speaks of what is there
abbrev pub AllThere : State → List Judged → Type 0
AllThere s ws = All (λ w. AreThere w.0 s) ws

-- ## over a run

-- before the first run
abbrev pub unjudged : Property → Judged
unjudged p = (p, Open 0)

-- at the start of a run: what was broken in another run stays so
abbrev pub begun : Property → State → Verdict → Verdict
begun p s (Broken turn) = Broken turn
begun p s (Open kept) = unless_broken s.turn (on_state p 0 s) (λ now. Open now)

abbrev pub begun_at : State → Judged → Judged
begun_at s w = (w.0, begun w.0 s w.1)

-- after the turn from a state
abbrev pub turned_on : Scenario → State → Judged → Judged
turned_on x s w = (w.0, stepped w.0 x w.1 s)

-- at the end of a run
abbrev pub broken_or : Verdict → Option ℕ → Verdict
broken_or v None = v
broken_or v (Some turn) = Broken turn

abbrev pub finished : Property → End → State → Verdict → Verdict
finished p end s v = broken_or v (ended p v end s)

abbrev pub finished_at : End → State → Judged → Judged
finished_at end s w = (w.0, finished w.0 end s w.1)

-- ## which are still looked for

abbrev pub is_open : Verdict → Bool
is_open (Open kept) = true
is_open (Broken turn) = false

abbrev pub are_open : List Judged → Bool
are_open ws = list_any (λ w. is_open w.1) ws

-- each with its place
abbrev pub live_at : ℕ → Property → Verdict → List (ℕ × Property) → List (ℕ × Property)
live_at place p (Open kept) rest = (place, p) ∷ rest
live_at place p (Broken turn) rest = rest

abbrev pub live_from : ℕ → List Judged → List (ℕ × Property)
live_from place [] = []
live_from place (w ∷ ws) = live_at place w.0 w.1 (live_from (place + 1) ws)

abbrev pub live : List Judged → List (ℕ × Property)
live ws = live_from 0 ws

-- ## what is kept

-- the number of a verdict; 0 of one that is broken
abbrev pub number_of : Verdict → ℕ
number_of (Open kept) = kept
number_of (Broken turn) = 0

-- the number at a place; 0 where no property is
abbrev pub number_in : Option Judged → ℕ
number_in None = 0
number_in (Some w) = number_of w.1

abbrev pub number_at : List Judged → ℕ → ℕ
number_at ws place = number_in (slice_get ws place)

-- with another number, if it is not broken
abbrev pub with_number : ℕ → Verdict → Verdict
with_number kept (Open other) = Open kept
with_number kept (Broken turn) = Broken turn

abbrev pub numbered : ℕ → Judged → Judged
numbered kept w = (w.0, with_number kept w.1)

-- ## as they stand in the code

-- with the byte that the turn from a state may change
abbrev pub looked : State → Watched → Watched
looked s w = record w { before = byte_before w.property s }

abbrev pub with_verdict : Verdict → Watched → Watched
with_verdict v w = record w { verdict = v }

abbrev pub stepped_in : Scenario → State → Watched → Watched
stepped_in x s w = with_verdict (stepped w.property x w.verdict s) w

abbrev pub begun_in : State → Watched → Watched
begun_in s w = with_verdict (begun w.property s w.verdict) w

abbrev pub finished_in : End → State → Watched → Watched
finished_in end s w = with_verdict (finished w.property end s w.verdict) w

-- What a line of a question says. docs/EXPLORE.md, Question, has the forms and the causes.
use Rattle.std.specs.Prelude.{ℕ, Bool, true, false, nat_lt, ◌&&◌, if◌then◌else◌, List, [], ◌∷◌, map, Option, Some, None, Result, Ok, Err, codes, bytes_eq}
use Rattle.std.specs.List.{list_all}
use Rattle.run_script.specs.declared.events.Event.{Event}
use Rattle.run_script.specs.declared.events.Event.TheVariants.{Tick, Irq, Feed}
use Rattle.run_script.specs.Statements.{device_in, line_in, number_within, starts_by_hash, turn_in}
use Rattle.run_script.specs.Words.{is_allowed, words}
use Rattle.run_question.specs.declared.asked.Property.{Property}
use Rattle.run_question.specs.Properties.{property_said}
use Rattle.run_question.specs.Values.{values_in}

-- what a line says: nothing, an arrival, events of the last arrival of which one comes, or a property
pub data Said : Type 0 where
  Nothing : Said
  Arrives : (first below : ℕ) → Bool → Said
  Offers : ℕ → List Event → Said
  Asks : Property → Said
  Refused : ℕ → Said

-- ---- an arrival

abbrev pub below_in : List ℕ → Option ℕ
below_in word = number_within 1 1000000000 word

-- behind the range: nothing, or `or not`
abbrev pub may_fail_in : List (List ℕ) → Option Bool
may_fail_in [] = Some false
may_fail_in (one ∷ two ∷ []) =
    if bytes_eq one (codes "or") && bytes_eq two (codes "not") then Some true else None
may_fail_in _ = None

abbrev pub ranged : Option ℕ → Option ℕ → Bool → Said
ranged (Some first) (Some below) may_fail =
    if nat_lt first below then Arrives first below may_fail else Refused 3
ranged first below may_fail = Refused 3

abbrev pub ranged_if : Option ℕ → Option ℕ → Option Bool → Said
ranged_if first below None = Refused 2
ranged_if first below (Some may_fail) = ranged first below may_fail

-- behind `from`: a turn, `below`, a turn, and perhaps `or not`
abbrev pub from_said : List (List ℕ) → Said
from_said (first ∷ word ∷ below ∷ rest) =
    if bytes_eq word (codes "below") then ranged_if (turn_in first) (below_in below) (may_fail_in rest) else Refused 2
from_said _ = Refused 2

-- ---- events, of which one comes

abbrev pub irq_on : Option ℕ → Result (List Event) ℕ
irq_on None = Err 3
irq_on (Some line) = Ok (Irq line ∷ [])

abbrev pub fed : Option ℕ → Option (List ℕ) → Result (List Event) ℕ
fed (Some device) (Some bytes) = Ok (map (λ byte. Feed device byte) bytes)
fed device bytes = Err 3

-- `tick`, or `irq` and a line, or `in`, a device and bytes
abbrev pub events_named : List (List ℕ) → Result (List Event) ℕ
events_named (kind ∷ []) = if bytes_eq kind (codes "tick") then Ok (Tick ∷ []) else Err 2
events_named (kind ∷ line ∷ []) = if bytes_eq kind (codes "irq") then irq_on (line_in line) else Err 2
events_named (kind ∷ device ∷ bytes ∷ []) =
    if bytes_eq kind (codes "in") then fed (device_in device) (values_in bytes) else Err 2
events_named _ = Err 2

abbrev pub offered : Option ℕ → Result (List Event) ℕ → Said
offered turn (Err cause) = Refused cause
offered None (Ok events) = Refused 3
offered (Some turn) (Ok events) = Offers turn events

-- behind `at`: a turn and what comes
abbrev pub at_said : List (List ℕ) → Said
at_said [] = Refused 2
at_said (turn ∷ rest) = offered (turn_in turn) (events_named rest)

-- ---- the line

abbrev pub asks : Result Property ℕ → Said
asks (Ok property) = Asks property
asks (Err cause) = Refused cause

-- nothing where there is no word, or the first begins with `#`
abbrev pub words_said : List (List ℕ) → Said
words_said [] = Nothing
words_said (word ∷ rest) =
    if starts_by_hash word then Nothing
    else if bytes_eq word (codes "from") then from_said rest
    else if bytes_eq word (codes "at") then at_said rest
    else asks (property_said (word ∷ rest))

unfoldable pub statement_of : List ℕ → Said
statement_of line = if list_all is_allowed line then words_said (words line) else Refused 1

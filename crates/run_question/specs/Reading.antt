-- The question that a text is. docs/EXPLORE.md, Question, has the grammar and the table of causes.
use Rattle.std.specs.Prelude.{ℕ, ◌+◌, ◌-◌, ◌*◌, Bool, false, nat_le, nat_lt, ◌||◌, if◌then◌else◌, List, [], ◌∷◌, ◌++◌, length, Option, Some, None, Result, Ok, Err}
use Rattle.text_lines.specs.Text.{lines_of}
use Rattle.run_script.specs.declared.events.Event.{Event}
use Rattle.run_script.specs.Scripts.{Refusal}
use Rattle.run_script.specs.Words.{words}
use Rattle.run_question.specs.declared.asked.Property.{Property}
use Rattle.run_question.specs.Questions.{Arrival, Offer, Question, Stated}
use Rattle.run_question.specs.Statements.{Said, Nothing, Arrives, Offers, Asks, Refused, statement_of}

-- what is read so far: the arrivals before the last, the last, the turn of its last event (0 where it has
-- none), how many events all arrivals have, and the properties
pub record Reading : Type 0 where
  pub before : List Arrival
  pub last : Option Arrival
  pub from : ℕ
  pub events : ℕ
  pub properties : List Stated

abbrev pub nothing_read : Reading
nothing_read = record { before = []; last = None; from = 0; events = 0; properties = [] }

abbrev pub listed : Option Arrival → List Arrival
listed None = []
listed (Some a) = a ∷ []

abbrev pub arrivals_of : Reading → List Arrival
arrivals_of r = r.before ++ listed r.last

-- there is an arrival without events
abbrev pub is_empty : Option Arrival → Bool
is_empty None = false
is_empty (Some a) = nat_lt (length a.offers) 1

-- ---- a line

abbrev pub arrival : ℕ → ℕ → Bool → Arrival
arrival first below may_fail = record { first = first; below = below; may_fail = may_fail; offers = [] }

-- with an arrival more, behind no property: there are at most eight
abbrev pub with_arrival : Reading → Arrival → Result Reading ℕ
with_arrival r a =
    if nat_lt 0 (length r.properties) || is_empty r.last then Err 4
    else if nat_le 8 (length (arrivals_of r)) then Err 5
    else Ok (record { before = arrivals_of r; last = Some a; from = 0; events = r.events; properties = r.properties })

abbrev pub offer : ℕ → List Event → Offer
offer turn events = record { turn = turn; events = events }

-- one event of some more, of an arrival, behind no property and not before the event before it: there are at most 256
abbrev pub with_offer_of : Option Arrival → Reading → Offer → Result Reading ℕ
with_offer_of None r o = Err 4
with_offer_of (Some a) r o =
    if nat_lt 0 (length r.properties) || nat_lt o.turn r.from then Err 4
    else if nat_le 256 r.events then Err 5
    else Ok (record { before = r.before; last = Some (record a { offers = a.offers ++ o ∷ [] }); from = o.turn; events = r.events + 1; properties = r.properties })

abbrev pub with_offer : Reading → Offer → Result Reading ℕ
with_offer r o = with_offer_of r.last r o

-- words with a space before each
unfoldable pub spaced : List (List ℕ) → List ℕ
spaced [] = []
spaced (word ∷ rest) = 32 ∷ word ++ spaced rest

-- words with one space between two
abbrev pub joined : List (List ℕ) → List ℕ
joined [] = []
joined (word ∷ rest) = word ++ spaced rest

abbrev pub stated_as : ℕ → List ℕ → Property → Stated
stated_as number words property = record { line = number; words = words; property = property }

-- with a property more: there are at most sixteen
abbrev pub with_property : Reading → Stated → Result Reading ℕ
with_property r p =
    if is_empty r.last then Err 4
    else if nat_le 16 (length r.properties) then Err 5
    else Ok (record { before = r.before; last = r.last; from = r.from; events = r.events; properties = r.properties ++ p ∷ [] })

-- with what a line says, or the cause by which it is refused
abbrev pub with_said : Reading → ℕ → List ℕ → Said → Result Reading ℕ
with_said r number line Nothing = Ok r
with_said r number line (Arrives first below may_fail) = with_arrival r (arrival first below may_fail)
with_said r number line (Offers turn events) = with_offer r (offer turn events)
with_said r number line (Asks property) = with_property r (stated_as number (joined (words line)) property)
with_said r number line (Refused cause) = Err cause

-- ---- the text

-- the end, where no arrival is without events
abbrev pub ended : Reading → ℕ → Result Question Refusal
ended r number =
    if is_empty r.last then Err (4, number)
    else Ok (record { arrivals = arrivals_of r; properties = r.properties })

abbrev pub go_on : ℕ → Result Reading ℕ → (Reading → Result Question Refusal) → Result Question Refusal
go_on number (Ok r) rest = rest r
go_on number (Err cause) rest = Err (cause, number)

-- what is read so far, with the lines from this number on
unfoldable pub with_lines : Reading → ℕ → List (List ℕ) → Result Question Refusal
with_lines r number [] = ended r number
with_lines r number (line ∷ lines) =
    go_on number (with_said r number line (statement_of line)) (λ next. with_lines next (number + 1) lines)

-- ---- how many schedules there are

-- how many choices of one event of each offer
unfoldable pub choice_count : List Offer → ℕ
choice_count [] = 1
choice_count (o ∷ offers) = length o.events * choice_count offers

abbrev pub once_if : Bool → ℕ
once_if may_fail = if may_fail then 1 else 0

-- in each turn of its range with each choice, and perhaps not at all
abbrev pub way_count : Arrival → ℕ
way_count a = (a.below - a.first) * choice_count a.offers + once_if a.may_fail

unfoldable pub schedule_count : List Arrival → ℕ
schedule_count [] = 1
schedule_count (a ∷ arrivals) = way_count a * schedule_count arrivals

abbrev pub unless_many : Result Question Refusal → Result Question Refusal
unless_many (Err refusal) = Err refusal
unless_many (Ok q) = if nat_le (schedule_count q.arrivals) 1000000000000000000 then Ok q else Err (5, 0)

-- the question that the bytes say, or the first cause with its line, from 1; or cause 5 at 0, where its
-- schedules are too many. Causes 6 and 7 depend on the script and the image.
abbrev pub question_or_fault : List ℕ → Result Question Refusal
question_or_fault bytes = unless_many (with_lines nothing_read 1 (lines_of bytes))

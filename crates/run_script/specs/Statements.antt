-- What a line of a script says. docs/FORMATS.md, Script, has the forms and the causes.
use Rattle.std.specs.Prelude.{ℕ, ◌+◌, ◌-◌, ◌*◌, ◌/◌, Bool, true, false, nat_eq, nat_le, nat_lt, ◌&&◌, if◌then◌else◌, List, [], ◌∷◌, length, map, replicate, Option, Some, None, Result, Ok, Err, codes, bytes_eq}
use Rattle.std.specs.List.{list_all}
use Rattle.text_lines.specs.Text.{number_of}
use Rattle.run_script.specs.declared.events.Event.{Event}
use Rattle.run_script.specs.declared.events.Event.TheVariants.{Tick, Irq, Feed}
use Rattle.run_script.specs.Quotes.{before_text, bytes_of, text_from}
use Rattle.run_script.specs.Words.{is_allowed, words}

-- what a line says: nothing, a period, or events, the first one in a given turn and each further one a number
-- of turns later
pub data Said : Type 0 where
  Nothing : Said
  Every : ℕ → Said
  Lists : (first step : ℕ) → List Event → Said
  Refused : ℕ → Said

-- ---- numbers

abbrev pub at_least : ℕ → Option ℕ → Option ℕ
at_least low None = None
at_least low (Some n) = if nat_le low n then Some n else None

-- a decimal number of one to ten digits, from low to top
abbrev pub number_within : ℕ → ℕ → List ℕ → Option ℕ
number_within low top word =
    if nat_le (length word) 10 then at_least low (number_of word top) else None

abbrev pub period_in : List ℕ → Option ℕ
period_in word = number_within 1 1000000000 word

abbrev pub turn_in : List ℕ → Option ℕ
turn_in word = number_within 0 999999999 word

abbrev pub line_in : List ℕ → Option ℕ
line_in word = number_within 0 63 word

abbrev pub device_in : List ℕ → Option ℕ
device_in word = number_within 0 7 word

abbrev pub byte_in : List ℕ → Option ℕ
byte_in word = number_within 0 255 word

-- ---- an event, or the cause: 2 if the words name none, 3 if a number is malformed or out of range

abbrev pub irq_on : Option ℕ → Result Event ℕ
irq_on None = Err 3
irq_on (Some line) = Ok (Irq line)

abbrev pub feed_of : Option ℕ → Option ℕ → Result Event ℕ
feed_of None byte = Err 3
feed_of (Some device) None = Err 3
feed_of (Some device) (Some byte) = Ok (Feed device byte)

-- `tick`, or `irq` and a line, or `in`, a device and a byte
abbrev pub event_named : List (List ℕ) → Result Event ℕ
event_named (kind ∷ []) = if bytes_eq kind (codes "tick") then Ok Tick else Err 2
event_named (kind ∷ line ∷ []) = if bytes_eq kind (codes "irq") then irq_on (line_in line) else Err 2
event_named (kind ∷ device ∷ byte ∷ []) =
    if bytes_eq kind (codes "in") then feed_of (device_in device) (byte_in byte) else Err 2
event_named _ = Err 2

-- ---- the forms, with cause 3 if a number is malformed or out of range

abbrev pub period_said : Option ℕ → Said
period_said None = Refused 3
period_said (Some period) = Every period

-- an event on a turn
abbrev pub once : Option ℕ → Result Event ℕ → Said
once turn (Err cause) = Refused cause
once None (Ok event) = Refused 3
once (Some turn) (Ok event) = Lists turn 0 (event ∷ [])

-- an event on a turn and each `step` turns later up to another turn
abbrev pub again : Option ℕ → Option ℕ → Option ℕ → Result Event ℕ → Said
again first step last (Err cause) = Refused cause
again (Some first) (Some step) (Some last) (Ok event) =
    if nat_lt last first then Refused 3
    else Lists first step (replicate ((last - first) / step + 1) event)
again first step last (Ok event) = Refused 3

-- bytes for a device, the last of them within the turns
abbrev pub spelled : Option ℕ → Option ℕ → Option ℕ → Option (List ℕ) → Said
spelled (Some first) (Some step) (Some device) (Some bytes) =
    if nat_le (first + (length bytes - 1) * step) 999999999
    then Lists first step (map (λ byte. Feed device byte) bytes)
    else Refused 3
spelled first step device bytes = Refused 3

-- behind `every`: a period and `tick`
abbrev pub every_said : List (List ℕ) → Said
every_said (period ∷ kind ∷ []) =
    if bytes_eq kind (codes "tick") then period_said (period_in period) else Refused 2
every_said _ = Refused 2

-- behind `at`: a turn and an event
abbrev pub at_said : List (List ℕ) → Said
at_said [] = Refused 2
at_said (turn ∷ event) = once (turn_in turn) (event_named event)

-- behind `from`: a turn, `every`, a period, `to`, a turn and an event
abbrev pub from_said : List (List ℕ) → Said
from_said (first ∷ every ∷ step ∷ to ∷ last ∷ event) =
    if bytes_eq every (codes "every") && bytes_eq to (codes "to")
    then again (turn_in first) (period_in step) (turn_in last) (event_named event)
    else Refused 2
from_said _ = Refused 2

-- before a text, behind `at`: a turn, `in` and a device
abbrev pub at_text_said : List (List ℕ) → List ℕ → Said
at_text_said (turn ∷ kind ∷ device ∷ []) text =
    if bytes_eq kind (codes "in")
    then spelled (turn_in turn) (Some 0) (device_in device) (bytes_of text)
    else Refused 2
at_text_said _ text = Refused 2

-- before a text, behind `from`: a turn, `every`, a period, `in` and a device
abbrev pub from_text_said : List (List ℕ) → List ℕ → Said
from_text_said (first ∷ every ∷ step ∷ kind ∷ device ∷ []) text =
    if bytes_eq every (codes "every") && bytes_eq kind (codes "in")
    then spelled (turn_in first) (period_in step) (device_in device) (bytes_of text)
    else Refused 2
from_text_said _ text = Refused 2

-- ---- the line

abbrev pub starts_by_hash : List ℕ → Bool
starts_by_hash [] = false
starts_by_hash (c ∷ cs) = nat_eq c 35

-- nothing if there is no word, or if the first one begins with `#`
abbrev pub words_said : List (List ℕ) → Said
words_said [] = Nothing
words_said (word ∷ rest) =
    if starts_by_hash word then Nothing
    else if bytes_eq word (codes "every") then every_said rest
    else if bytes_eq word (codes "at") then at_said rest
    else if bytes_eq word (codes "from") then from_said rest
    else Refused 2

-- the same of the words before a text
abbrev pub text_said : List (List ℕ) → List ℕ → Said
text_said [] text = Refused 2
text_said (word ∷ rest) text =
    if starts_by_hash word then Nothing
    else if bytes_eq word (codes "at") then at_text_said rest text
    else if bytes_eq word (codes "from") then from_text_said rest text
    else Refused 2

abbrev pub line_said : List (List ℕ) → List ℕ → Said
line_said before [] = words_said before
line_said before (c ∷ cs) = text_said before (c ∷ cs)

unfoldable pub statement_of : List ℕ → Said
statement_of line =
    if list_all is_allowed line then line_said (words (before_text true line)) (text_from true line) else Refused 1

-- A script: what happens from outside, turn by turn, and the script that a text spells. docs/FORMATS.md,
-- Script, has the grammar and the table of causes.
use Rattle.std.specs.Prelude.{ℕ, ◌≡◌, ◌≢◌, ◌≤◌, ◌<◌, Bool, true, false, ◌+◌, ◌%◌, ◌==◌, ◌&&◌, ◌||◌, nat_lt, nat_le, if◌then◌else◌, List, [], ◌∷◌, ◌++◌, length, map, filter, slice_index_or, Option, Some, None, is_some, Result, Ok, Err}
use Rattle.std.specs.List.{count_by, list_any}
use Rattle.text_lines.specs.Text.{lines_of}
use Rattle.run_script.specs.declared.events.Event.{Event}
use Rattle.run_script.specs.declared.events.Event.TheVariants.{Tick}
use Rattle.run_script.specs.Statements.{Said, Nothing, Every, Lists, Refused, statement_of}

-- a turn and what happens in it
abbrev pub Listed : Type 0
Listed = ℕ × Event

-- the period of ticks, if there is one, and the listed events in order
pub record ScriptData : Type 0 where
  pub every : Option ℕ
  pub events : List Listed

-- ---- turn by turn

-- whether the listed event is of this turn
abbrev pub is_of : ℕ → Listed → Bool
is_of turn listed = listed.0 == turn

-- a tick on each turn above 0 that is a multiple of the period
abbrev pub ticks_of : Option ℕ → ℕ → List Event
ticks_of None turn = []
ticks_of (Some period) turn = if nat_lt 0 turn && (turn % period == 0) then Tick ∷ [] else []

-- the listed events of a turn, in the order of the script
abbrev pub listed_of : ℕ → List Listed → List Event
listed_of turn events = map (λ listed. listed.1) (filter (is_of turn) events)

-- what happens in a turn
abbrev pub events_of : ScriptData → ℕ → List Event
events_of script turn = ticks_of script.every turn ++ listed_of turn script.events

-- the list with an event inserted after those of its turn and of the turns before
abbrev pub inserted : ℕ → Event → List Listed → List Listed
inserted turn event events = filter (λ d. nat_le d.0 turn) events ++ (turn, event) ∷ filter (λ d. nat_lt turn d.0) events

-- the index of the first listed event of this turn or a later one, or the number of listed events if there is
-- none
pub record IsFirstListed (script : ScriptData) (turn at : ℕ) : Type 0 where
  pub within : at ≤ length script.events
  pub before : (k : ℕ) (d : Listed) → k < at → nat_lt (slice_index_or script.events k d).0 turn ≡ true
  pub from : (k : ℕ) (d : Listed) → at ≤ k → k < length script.events → nat_lt (slice_index_or script.events k d).0 turn ≡ false

-- something happens in a turn from this one on
abbrev pub lasts : ScriptData → ℕ → Bool
lasts script from = is_some script.every || list_any (λ listed. nat_le from listed.0) script.events

-- the next turn, from this one on, in which something happens; a run has less than 1,000,000,000 turns
abbrev pub IsNext : ScriptData → ℕ → Option ℕ → Type 0
IsNext script from None = (turn : ℕ) → from ≤ turn → turn < 1000000000 → events_of script turn ≡ []
IsNext script from (Some next) = (from ≤ next) × (next < 1000000000) × (events_of script next ≢ []) × ((turn : ℕ) → from ≤ turn → turn < next → events_of script turn ≡ [])

-- ---- reading

-- the script before the first line is read
abbrev pub no_script : ScriptData
no_script = record { every = None; events = [] }

-- no room for one more event: 65,536 are listed, or eight of this turn
abbrev pub is_full : List Listed → ℕ → Bool
is_full events turn = nat_le 65536 (length events) || nat_le 8 (count_by (is_of turn) events)

abbrev pub with_listed : ScriptData → ℕ → Event → Result ScriptData ℕ
with_listed script turn event =
    if is_full script.events turn then Err 5
    else Ok (record { every = script.every; events = inserted turn event script.events })

abbrev pub if_ok : {A B : Type 0} → Result A ℕ → (A → Result B ℕ) → Result B ℕ
if_ok (Ok x) rest = rest x
if_ok (Err cause) rest = Err cause

-- the script with these events, the first one in a given turn and each further one `step` turns later
unfoldable pub with_series : ScriptData → (turn step : ℕ) → List Event → Result ScriptData ℕ
with_series script turn step [] = Ok script
with_series script turn step (event ∷ events) =
    if_ok (with_listed script turn event) (λ next. with_series next (turn + step) step events)

abbrev pub with_period : ScriptData → ℕ → Result ScriptData ℕ
with_period script period =
    if is_some script.every || nat_lt 0 (length script.events) then Err 4
    else Ok (record { every = Some period; events = script.events })

-- the lines read so far: the script, and the first turn of the last line that lists events; 0 if no line does
pub record Reading : Type 0 where
  pub script : ScriptData
  pub from : ℕ

abbrev pub reading : ℕ → ScriptData → Reading
reading from script = record { script = script; from = from }

-- the reading with the statement of one more line, or the cause why the statement is refused
abbrev pub with_statement : Reading → Said → Result Reading ℕ
with_statement r Nothing = Ok r
with_statement r (Every period) = if_ok (with_period r.script period) (λ script. Ok (reading r.from script))
with_statement r (Lists first step events) =
    if nat_lt first r.from then Err 4
    else if_ok (with_series r.script first step events) (λ script. Ok (reading first script))
with_statement r (Refused cause) = Err cause

-- a cause and a line
abbrev pub Refusal : Type 0
Refusal = ℕ × ℕ

abbrev pub go_on : ℕ → Result Reading ℕ → (Reading → Result ScriptData Refusal) → Result ScriptData Refusal
go_on line (Ok r) rest = rest r
go_on line (Err cause) rest = Err (cause, line)

-- what is read so far, with the lines from this number on
unfoldable pub with_lines : Reading → ℕ → List (List ℕ) → Result ScriptData Refusal
with_lines r number [] = Ok r.script
with_lines r number (line ∷ lines) =
    go_on number (with_statement r (statement_of line)) (λ next. with_lines next (number + 1) lines)

-- the script that the bytes spell, or the first cause with its line, from 1
abbrev pub script_or_fault : List ℕ → Result ScriptData Refusal
script_or_fault bytes = with_lines (reading 0 no_script) 1 (lines_of bytes)

-- What a picture says of a run beside its columns (docs/FORMATS.md, Picture; this project's own): the calls
-- of each task, the arrows between lanes, and in words what happened to tasks.
use Rattle.std.specs.Prelude.{ℕ, ◌+◌, ◌-◌, ◌==◌, Bool, true, false, nat_lt, filter, if◌then◌else◌, List, [], ◌∷◌, ◌++◌, map, replicate, slice_index_or, slice_set, codes, decimal, Option, Some, None}
use Rattle.std.specs.List.{flat_map, list_any}
use Rattle.kernel_abi.specs.declared.Ending.{Ending}
use Rattle.kernel_abi.specs.declared.Ending.TheVariants as ending
use Rattle.kernel_abi.specs.declared.Note.{Note}
use Rattle.kernel_abi.specs.declared.Note.TheVariants as note
use Rattle.lane_picture.specs.declared.parts.Arrow.{Arrow}
use Rattle.lane_picture.specs.declared.parts.AskedCall.{AskedCall}
use Rattle.lane_picture.specs.declared.parts.TaskCalls.{TaskCalls}
use Rattle.lane_picture.specs.declared.parts.Longest.{Longest}
use Rattle.lane_picture.specs.declared.parts.ArrowKind.{ArrowKind}
use Rattle.lane_picture.specs.declared.parts.ArrowKind.TheVariants as way
use Rattle.lane_picture.specs.Drawing.{no_calls}
use Rattle.outside_io.specs.Outside.{raised}
use Rattle.run_lanes.specs.Columns.{is_birth_of}
use Rattle.run_lanes.specs.Names.{fault_name}
use Rattle.run_lanes.specs.Activities.{TurnSight}

-- ## the calls of tasks

-- the call that a task has open has this number
abbrev pub has_asked : ℕ → Option AskedCall → Bool
has_asked call None = false
has_asked call (Some asked) = asked.call == call

-- a call, and the index of its client
abbrev pub AskedBy : Type 0
AskedBy = ℕ × AskedCall

abbrev pub by : ℕ → Option AskedCall → Option AskedBy
by i None = None
by i (Some asked) = Some (i, asked)

-- the task that has this call open, among those from the i-th on
unfoldable pub client_of : ℕ → ℕ → List TaskCalls → Option AskedBy
client_of call i [] = None
client_of call i (c ∷ calls) = if has_asked call c.asked then by i c.asked else client_of call (i + 1) calls

-- the longer of two calls; the first one if they are equal
abbrev pub longer : Option Longest → Longest → Longest
longer None l = l
longer (Some k) l = if nat_lt k.turns l.turns then l else k

-- the task offers one more call
abbrev pub offered : ℕ → ℕ → ℕ → TaskCalls → TaskCalls
offered call server turn c = record { count = raised c.count 1; asked = Some record { call = call; server = server; since = turn }; longest = c.longest }

-- the call that the task had open is closed in a turn
abbrev pub closed : ℕ → AskedCall → TaskCalls → TaskCalls
closed turn asked c = record { count = c.count; asked = None; longest = Some (longer c.longest record { server = asked.server; from = asked.since; turns = turn - asked.since }) }

abbrev pub no_calls_of : ℕ → List TaskCalls
no_calls_of tasks = replicate tasks no_calls

abbrev pub calls_of : List TaskCalls → ℕ → TaskCalls
calls_of calls i = slice_index_or calls i no_calls

abbrev pub closed_by : ℕ → List TaskCalls → Option AskedBy → List TaskCalls
closed_by turn calls None = calls
closed_by turn calls (Some c) = slice_set calls c.0 (closed turn c.1 (calls_of calls c.0))

-- the calls of the tasks after a note of a turn
abbrev pub calls_after : ℕ → List TaskCalls → Note → List TaskCalls
calls_after turn calls (note.Offer call client server) = slice_set calls client (offered call server turn (calls_of calls client))
calls_after turn calls (note.Close call how) = closed_by turn calls (client_of call 0 calls)
calls_after turn calls _ = calls

-- ## arrows

-- the arrow of a call that is taken, from its client at the offer to its server
abbrev pub taken_by : ℕ → Option AskedBy → List Arrow
taken_by turn None = []
taken_by turn (Some c) = record { way = way.Call; from = c.0; at = c.1.since; to = c.1.server; until = turn } ∷ []

abbrev pub back : ℕ → ArrowKind → AskedBy → List Arrow
back turn w c = record { way = w; from = c.1.server; at = turn; to = c.0; until = turn } ∷ []

-- The arrow of a call that is closed, from its server back to its client. There is none if the client ended
-- the call, or is itself born again in this turn, of which these are the notes.
abbrev pub closed_arrow : ℕ → List Note → Ending → AskedBy → List Arrow
closed_arrow turn notes ending.Reply c = back turn way.Answer c
closed_arrow turn notes ending.ReplyFault c = back turn way.Break c
closed_arrow turn notes ending.Client c = []
closed_arrow turn notes ending.Restart c = if list_any (is_birth_of c.0) notes then [] else back turn way.Break c

abbrev pub ended_by : ℕ → List Note → Ending → Option AskedBy → List Arrow
ended_by turn notes how None = []
ended_by turn notes how (Some c) = closed_arrow turn notes how c

-- the arrow of a note of a turn that has these notes
abbrev pub arrows_of : ℕ → List Note → List TaskCalls → Note → List Arrow
arrows_of turn notes calls (note.Take call copied) = taken_by turn (client_of call 0 calls)
arrows_of turn notes calls (note.Close call how) = ended_by turn notes how (client_of call 0 calls)
arrows_of turn notes calls _ = []

-- ## what happened to tasks: faults and births

-- a note, and its turn
abbrev pub TurnNote : Type 0
TurnNote = ℕ × Note

abbrev pub is_event : Note → Bool
is_event (note.Fault task fault) = true
is_event (note.Restart task generation) = true
is_event _ = false

abbrev pub name_of : List (List ℕ) → ℕ → List ℕ
name_of names i = slice_index_or names i []

unfoldable pub event_text : List (List ℕ) → TurnNote → List ℕ
event_text names (turn, note.Fault task fault) = codes "turn " ++ decimal turn ++ codes ": " ++ name_of names task ++ codes " faults: " ++ fault_name fault
event_text names (turn, note.Restart task generation) = codes "turn " ++ decimal turn ++ codes ": " ++ name_of names task ++ codes " is born again, generation " ++ decimal generation
event_text names _ = []

-- ## turn by turn

unfoldable pub calls_at_end_of : ℕ → List TaskCalls → List Note → List TaskCalls
calls_at_end_of turn calls [] = calls
calls_at_end_of turn calls (n ∷ notes) = calls_at_end_of turn (calls_after turn calls n) notes

-- the arrows of some notes, one after another, of a turn that has all these notes
unfoldable pub arrows_of_notes : ℕ → List Note → List TaskCalls → List Note → List Arrow
arrows_of_notes turn all calls [] = []
arrows_of_notes turn all calls (n ∷ notes) = arrows_of turn all calls n ++ arrows_of_notes turn all (calls_after turn calls n) notes

unfoldable pub calls_at_end : List TaskCalls → List TurnSight → List TaskCalls
calls_at_end calls [] = calls
calls_at_end calls (t ∷ turns) = calls_at_end (calls_at_end_of t.turn calls t.notes) turns

unfoldable pub all_arrows : List TaskCalls → List TurnSight → List Arrow
all_arrows calls [] = []
all_arrows calls (t ∷ turns) = arrows_of_notes t.turn t.notes calls t.notes ++ all_arrows (calls_at_end_of t.turn calls t.notes) turns

abbrev pub events_of : TurnSight → List TurnNote
events_of t = map (λ n. (t.turn, n)) (filter is_event t.notes)

abbrev pub all_events : List TurnSight → List TurnNote
all_events turns = flat_map events_of turns

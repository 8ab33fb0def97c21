-- A run as a timeline: events in the Trace Event Format, one on each line (docs/FORMATS.md, Timeline). Thread
-- 0 has what comes from outside, thread i + 1 is task i.
use Rattle.std.specs.Prelude.{ℕ, ◌+◌, ◌-◌, ◌==◌, Bool, false, if◌then◌else◌, List, [], ◌∷◌, ◌++◌, length, codes, decimal, slice_index_or, slice_set, map, replicate, Option, Some, None}
use Rattle.std.specs.List.{flat_map, range_with_len}
use Rattle.serde_json.specs.Data.{Data, unsigned, string, object, member, no_members}
use Rattle.serde_json.specs.Data as json
use Rattle.serde_json.specs.Written.{compact_text}
use Rattle.kernel_abi.specs.declared.Fed.{Fed}
use Rattle.kernel_abi.specs.declared.Handled.{Handled}
use Rattle.kernel_abi.specs.declared.Note.{Note}
use Rattle.kernel_abi.specs.declared.Note.TheVariants as note
use Rattle.trace_text.specs.Text.{byte_hex, fed_name, handled_name, spaced_hex}
use Rattle.task_table.specs.model.State.{State}
use Rattle.board_model.specs.Script.{Scenario}
use Rattle.run_lanes.specs.declared.lanes.Offer.{Offer}
use Rattle.run_lanes.specs.declared.lanes.LaneStretch.{LaneStretch}
use Rattle.run_lanes.specs.declared.activity.Activity.{Activity}
use Rattle.run_lanes.specs.declared.activity.Activity.TheVariants as activity
use Rattle.run_lanes.specs.Names.{fault_name, syscall_name}
use Rattle.run_lanes.specs.Activities.{TurnSight, is_same, sights}

-- ## events, each after the `,` and the LF that end the line before it

-- the thread and the turn of an event, and its end
unfoldable pub place_text : ℕ → ℕ → List ℕ
place_text thread turn = codes ",\"tid\":" ++ decimal thread ++ codes ",\"ts\":" ++ decimal turn ++ codes "}"

abbrev pub activity_name : Activity → List ℕ
activity_name activity.Runs = codes "runs"
activity_name activity.Ready = codes "ready"
activity_name activity.Offers = codes "offers"
activity_name activity.Awaits = codes "awaits"
activity_name activity.Listens = codes "listens"
activity_name activity.Faulted = codes "faulted"
activity_name activity.Stopped = codes "stopped"

-- what a task does for this many turns, from a turn on
unfoldable pub stretch_text : ℕ → Activity → ℕ → ℕ → List ℕ
stretch_text thread w turns from =
    codes ",\n{\"dur\":" ++ decimal turns ++ codes ",\"name\":\"" ++ activity_name w ++ codes "\",\"ph\":\"X\",\"pid\":0" ++ place_text thread from

-- what happens at one moment
unfoldable pub instant_text : List ℕ → ℕ → ℕ → List ℕ
instant_text name thread turn = codes ",\n{\"name\":\"" ++ name ++ codes "\",\"ph\":\"i\",\"pid\":0,\"s\":\"t\"" ++ place_text thread turn

-- an arrow of a call: it starts at the offer, goes on at the take and ends at the close
unfoldable pub arrow_text : List ℕ → ℕ → List ℕ → ℕ → ℕ → List ℕ
arrow_text head call phase thread turn =
    codes ",\n{" ++ head ++ codes "\"cat\":\"call\",\"id\":" ++ decimal call ++ codes ",\"name\":\"call\",\"ph\":\"" ++ phase ++ codes "\",\"pid\":0" ++ place_text thread turn

-- ## the notes of a turn

-- the thread of a task
abbrev pub thread_of : ℕ → ℕ
thread_of task = task + 1

-- the call that a task offered last, if it offered one, has this number
abbrev pub is_of_call : ℕ → Option Offer → Bool
is_of_call call None = false
is_of_call call (Some offer) = offer.call == call

abbrev pub server_thread_of : Option Offer → ℕ
server_thread_of None = 0
server_thread_of (Some offer) = thread_of offer.server

-- The threads of a call's client and of its server, where the tasks from the i-th on offered these calls
-- last. The first task that offered the call counts; if there is none, the thread is 0.
unfoldable pub client_from : ℕ → ℕ → List (Option Offer) → ℕ
client_from call i [] = 0
client_from call i (offer ∷ offers) = if is_of_call call offer then thread_of i else client_from call (i + 1) offers

unfoldable pub server_in : ℕ → List (Option Offer) → ℕ
server_in call [] = 0
server_in call (offer ∷ offers) = if is_of_call call offer then server_thread_of offer else server_in call offers

-- the names of what happens at one moment, except system calls and faults
abbrev pub tick_name : ℕ → List ℕ
tick_name now = codes "tick " ++ decimal now

abbrev pub irq_name : ℕ → Handled → List ℕ
irq_name line handled = codes "irq " ++ decimal line ++ codes " " ++ handled_name handled

abbrev pub in_name : ℕ → ℕ → Option Fed → List ℕ
in_name device byte fed = codes "in " ++ decimal device ++ codes " " ++ byte_hex byte ++ codes " " ++ fed_name fed

abbrev pub out_name : ℕ → ℕ → List ℕ
out_name device byte = codes "out " ++ decimal device ++ codes " " ++ byte_hex byte

abbrev pub post_name : ℕ → List ℕ
post_name bits = codes "post" ++ spaced_hex bits

abbrev pub restart_name : ℕ → List ℕ
restart_name generation = codes "restart " ++ decimal generation

-- what is written of a note of a turn
abbrev pub note_text : List (Option Offer) → ℕ → Note → List ℕ
note_text offers turn (note.Tick now) = instant_text (tick_name now) 0 turn
note_text offers turn (note.Irq line handled) = instant_text (irq_name line handled) 0 turn
note_text offers turn (note.In device byte fed) = instant_text (in_name device byte fed) 0 turn
note_text offers turn (note.Out device byte) = instant_text (out_name device byte) 0 turn
note_text offers turn (note.Syscall task number arguments) = instant_text (syscall_name number) (thread_of task) turn
note_text offers turn (note.Post task bits posted) = instant_text (post_name bits) (thread_of task) turn
note_text offers turn (note.Fault task fault) = instant_text (fault_name fault) (thread_of task) turn
note_text offers turn (note.Restart task generation) = instant_text (restart_name generation) (thread_of task) turn
note_text offers turn (note.Offer call client server) = arrow_text [] call (codes "s") (thread_of client) turn
note_text offers turn (note.Take call copied) = arrow_text [] call (codes "t") (server_in call offers) turn
note_text offers turn (note.Close call ending) = arrow_text (codes "\"bp\":\"e\",") call (codes "f") (client_from call 0 offers) turn
note_text offers turn (note.Ret task results) = []
note_text offers turn (note.Listen task from mask) = []
note_text offers turn (note.Borrow call borrow lease offset moved) = []
note_text offers turn (note.IrqStatus task bits status) = []
note_text offers turn (note.Find index found) = []
note_text offers turn (note.Insn task at code) = []
note_text offers turn note.Idle = []
note_text offers turn (note.Low registers) = []
note_text offers turn (note.High registers n z c v) = []

-- what each task offered last, after a note
abbrev pub offers_after : List (Option Offer) → Note → List (Option Offer)
offers_after offers (note.Offer call client server) = slice_set offers client (Some record { call = call; server = server })
offers_after offers _ = offers

unfoldable pub notes_text : List (Option Offer) → ℕ → List Note → List ℕ
notes_text offers turn [] = []
notes_text offers turn (n ∷ notes) = note_text offers turn n ++ notes_text (offers_after offers n) turn notes

unfoldable pub offers_at_end : List (Option Offer) → List Note → List (Option Offer)
offers_at_end offers [] = offers
offers_at_end offers (n ∷ notes) = offers_at_end (offers_after offers n) notes

-- ## stretches: what each task has been doing, and since when

abbrev pub nothing_yet : ℕ → LaneStretch
nothing_yet turn = record { activity = activity.Ready; since = turn }

abbrev pub stretch_at : List LaneStretch → ℕ → LaneStretch
stretch_at stretches i = slice_index_or stretches i (nothing_yet 0)

abbrev pub activity_at : List Activity → ℕ → Activity
activity_at activities i = slice_index_or activities i activity.Ready

-- what is written of a stretch that ends before a turn: nothing if it has no turn
abbrev pub ended_text : ℕ → ℕ → LaneStretch → List ℕ
ended_text turn i s = if s.since == turn then [] else stretch_text (thread_of i) s.activity (turn - s.since) s.since

-- a stretch ends when the task does something else
abbrev pub over_text : ℕ → ℕ → LaneStretch → Activity → List ℕ
over_text turn i s w = if is_same s.activity w then [] else ended_text turn i s

-- and another stretch begins there
abbrev pub renewed : ℕ → LaneStretch → Activity → LaneStretch
renewed turn s w = if is_same s.activity w then s else record { activity = w; since = turn }

unfoldable pub overs_text : ℕ → List LaneStretch → List Activity → List ℕ
overs_text turn stretches activities = flat_map (λ i. over_text turn i (stretch_at stretches i) (activity_at activities i)) (range_with_len 0 (length stretches))

unfoldable pub all_renewed : ℕ → List LaneStretch → List Activity → List LaneStretch
all_renewed turn stretches activities = map (λ i. renewed turn (stretch_at stretches i) (activity_at activities i)) (range_with_len 0 (length stretches))

unfoldable pub rests_text : ℕ → List LaneStretch → List ℕ
rests_text turn stretches = flat_map (λ i. ended_text turn i (stretch_at stretches i)) (range_with_len 0 (length stretches))

-- ## turn by turn

-- what is kept of the turns so far: for each task, the stretch that it is in and the call that it offered
-- last
pub record Kept : Type 0 where
  pub stretches : List LaneStretch
  pub offers : List (Option Offer)

-- what is kept before the first turn, for this many tasks
abbrev pub kept_none : ℕ → ℕ → Kept
kept_none tasks turn = record { stretches = replicate tasks (nothing_yet turn); offers = replicate tasks None }

abbrev pub kept_after : Kept → TurnSight → Kept
kept_after k t = record { stretches = all_renewed t.turn k.stretches t.activities; offers = offers_at_end k.offers t.notes }

-- the stretches that end here, and then the notes
abbrev pub turn_text : Kept → TurnSight → List ℕ
turn_text k t = overs_text t.turn k.stretches t.activities ++ notes_text k.offers t.turn t.notes

unfoldable pub turns_text : Kept → List TurnSight → List ℕ
turns_text k [] = []
turns_text k (t ∷ turns) = turn_text k t ++ turns_text (kept_after k t) turns

unfoldable pub kept_at_end : Kept → List TurnSight → Kept
kept_at_end k [] = k
kept_at_end k (t ∷ turns) = kept_at_end (kept_after k t) turns

-- ## what comes before the turns: the threads' names, and their order

abbrev pub whole : ℕ → Data
whole n = json.number (unsigned n)

-- an event from which a viewer takes the name of thread i + 1
abbrev pub name_data : ℕ → List ℕ → Data
name_data i name = object (member (codes "args") (object (member (codes "name") (string name) no_members))
    (member (codes "name") (string (codes "thread_name"))
    (member (codes "ph") (string (codes "M"))
    (member (codes "pid") (whole 0)
    (member (codes "tid") (whole (thread_of i)) no_members)))))

abbrev pub name_text : List (List ℕ) → ℕ → List ℕ
name_text names i = codes ",\n" ++ compact_text (name_data i (slice_index_or names i []))

unfoldable pub outside_text : List ℕ
outside_text = codes "{\"traceEvents\":[\n{\"args\":{\"name\":\"outside\"},\"name\":\"thread_name\",\"ph\":\"M\",\"pid\":0,\"tid\":0}"

unfoldable pub order_text : ℕ → List ℕ
order_text thread =
    codes ",\n{\"args\":{\"sort_index\":" ++ decimal thread ++ codes "},\"name\":\"thread_sort_index\",\"ph\":\"M\",\"pid\":0,\"tid\":" ++ decimal thread ++ codes "}"

unfoldable pub orders_text : ℕ → List ℕ
orders_text threads = flat_map order_text (range_with_len 0 threads)

unfoldable pub head_text : List (List ℕ) → List ℕ
head_text names = outside_text ++ flat_map (name_text names) (range_with_len 0 (length names)) ++ orders_text (length names + 1)

unfoldable pub tail_text : List ℕ
tail_text = codes "\n]}\n"

-- ## the whole

-- the turns from one on, and what comes after them: the stretches in which the tasks still are, and the end
-- of the text
unfoldable pub drawn_text : Kept → ℕ → List TurnSight → List ℕ
drawn_text k turn turns = turns_text k turns ++ (rests_text (turn + length turns) (kept_at_end k turns).stretches ++ tail_text)

-- the timeline of the run from a state with at most this many turns, with these names of tasks
unfoldable pub timeline_text : List (List ℕ) → Scenario → ℕ → State → List ℕ
timeline_text names x left s = head_text names ++ drawn_text (kept_none (length names) s.turn) s.turn (sights x left s)

-- The kinds of notes: the kind that a word names, and which notes a search by kind and number finds
-- (docs/FORMATS.md, Trace).
use Rattle.std.specs.Prelude.{ℕ, ◌==◌, ◌&&◌, Bool, true, false, if◌then◌else◌, List, Option, Some, None, codes, bytes_eq}
use Rattle.std.specs.Option.{option_or}
use Rattle.kernel_abi.specs.declared.Note.{Note}
use Rattle.kernel_abi.specs.declared.Note.TheVariants as note
use Rattle.trace_text.specs.declared.kinds.NoteKind.{NoteKind}
use Rattle.trace_text.specs.declared.kinds.NoteKind.TheVariants as kind

-- ---- words

-- the kind of note that a word names
abbrev pub event_kind : List ℕ → Option NoteKind
event_kind word =
    if bytes_eq word (codes "tick") then Some kind.Tick
    else if bytes_eq word (codes "irq") then Some kind.Irq
    else if bytes_eq word (codes "in") then Some kind.In
    else if bytes_eq word (codes "out") then Some kind.Out
    else None

abbrev pub call_kind : List ℕ → Option NoteKind
call_kind word =
    if bytes_eq word (codes "call") then Some kind.Call
    else if bytes_eq word (codes "ret") then Some kind.Ret
    else if bytes_eq word (codes "offer") then Some kind.Offer
    else if bytes_eq word (codes "take") then Some kind.Take
    else if bytes_eq word (codes "borrow") then Some kind.Borrow
    else if bytes_eq word (codes "close") then Some kind.Close
    else None

abbrev pub task_kind : List ℕ → Option NoteKind
task_kind word =
    if bytes_eq word (codes "post") then Some kind.Post
    else if bytes_eq word (codes "listen") then Some kind.Listen
    else if bytes_eq word (codes "fault") then Some kind.Fault
    else if bytes_eq word (codes "restart") then Some kind.Restart
    else if bytes_eq word (codes "irqstat") then Some kind.IrqStatus
    else if bytes_eq word (codes "find") then Some kind.Find
    else None

abbrev pub kind_in : List ℕ → Option NoteKind
kind_in word = option_or (event_kind word) (option_or (call_kind word) (task_kind word))

-- ---- notes

abbrev pub is_of_kind : NoteKind → Note → Bool
is_of_kind kind.Tick (note.Tick _) = true
is_of_kind kind.Irq (note.Irq _ _) = true
is_of_kind kind.In (note.In _ _ _) = true
is_of_kind kind.Out (note.Out _ _) = true
is_of_kind kind.Post (note.Post _ _ _) = true
is_of_kind kind.Call (note.Syscall _ _ _) = true
is_of_kind kind.Ret (note.Ret _ _) = true
is_of_kind kind.Close (note.Close _ _) = true
is_of_kind kind.Listen (note.Listen _ _ _) = true
is_of_kind kind.Offer (note.Offer _ _ _) = true
is_of_kind kind.Take (note.Take _ _) = true
is_of_kind kind.Borrow (note.Borrow _ _ _ _ _) = true
is_of_kind kind.Fault (note.Fault _ _) = true
is_of_kind kind.Restart (note.Restart _ _) = true
is_of_kind kind.IrqStatus (note.IrqStatus _ _ _) = true
is_of_kind kind.Find (note.Find _ _) = true
is_of_kind _ _ = false

-- the first number after the kind in a note's line; None if the line has no number
abbrev pub first_number : Note → Option ℕ
first_number (note.Tick now) = Some now
first_number (note.Irq line handled) = Some line
first_number (note.In device byte fed) = Some device
first_number (note.Out device byte) = Some device
first_number (note.Post task bits posted) = Some task
first_number (note.Syscall task number arguments) = Some task
first_number (note.Ret task results) = Some task
first_number (note.Close call ending) = Some call
first_number (note.Listen task from mask) = Some task
first_number (note.Offer call client server) = Some call
first_number (note.Take call copied) = Some call
first_number (note.Borrow call borrow lease offset moved) = Some call
first_number (note.Fault task fault) = Some task
first_number (note.Restart task generation) = Some task
first_number (note.IrqStatus task bits status) = Some task
first_number (note.Find index found) = Some index
first_number _ = None

-- without a wanted number every line agrees
abbrev pub agrees : Option ℕ → Option ℕ → Bool
agrees None number = true
agrees (Some wanted) None = false
agrees (Some wanted) (Some number) = wanted == number

abbrev pub is_sought : NoteKind → Option ℕ → Note → Bool
is_sought kind number note = is_of_kind kind note && agrees number (first_number note)

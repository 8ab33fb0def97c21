-- The kernel messages, which the supervisor sends to the kernel. (Hubris Reference: supervision; the
-- operations are this project's profile.)
use Rattle.std.specs.Prelude.{ℕ, ◌+◌, ◌/◌, ◌%◌, ◌^◌, Bool, true, false, ◌&&◌, ◌||◌, not, List, [], ◌∷◌, ◌++◌, ◌-◌, length, Option, None, Some, is_some, unwrap_or, ◌==◌, nat_le, find}
use Rattle.std.specs.List.{range_with_len}
use Rattle.kernel_abi.specs.Arguments.{send_args}
use Rattle.kernel_abi.specs.Faults.{usage_number, access_number, injected_fault}
use Rattle.kernel_abi.specs.declared.Access.TheVariants.{KernelRead, KernelWrite}
use Rattle.kernel_abi.specs.declared.Health.{Health}
use Rattle.kernel_abi.specs.declared.Health.TheVariants.{Well, Stopped, Faulted}
use Rattle.kernel_abi.specs.declared.Note.TheVariants as note
use Rattle.kernel_abi.specs.declared.Usage.TheVariants.{BadTaskIndex, InvalidSlice, BadKernelMessage, NotSupervisor}
use Rattle.kernel_abi.specs.declared.arguments.SendArgs.{SendArgs}
use Rattle.region_check.specs.declared.Right.TheVariants.{Read, Write}
use Rattle.mem_banks.specs.Memory.{number_at}
use Rattle.task_table.specs.model.State.{Setup, State, Own, Turn}
use Rattle.task_table.specs.model.Reading.{task_at, is_faulted, arguments, is_valid, bad_byte}
use Rattle.task_table.specs.model.Effects.{◌⨾◌, noted, stored, faulted, restarted}
use Rattle.task_table.specs.model.Rows.{first_row, misused, denied, goes_on_with}
use Rattle.task_table.specs.model.Sends.{message_of, reply_room}

-- ## what a kernel message asks for

-- The number of the request, how many bytes its message and its answer have, whether it may be about the supervisor
-- itself, and what it does to the task that its message names.
pub record Request : Type 0 where
  pub number : ℕ
  pub message : ℕ
  pub reply : ℕ
  pub on_supervisor : Bool
  pub does : Setup → SendArgs → ℕ → Turn → Turn

-- the four bytes of a word, the lowest first
abbrev pub word_bytes : ℕ → List ℕ
word_bytes w = w % 256 ∷ w / 2 ^ 8 % 256 ∷ w / 2 ^ 16 % 256 ∷ w / 2 ^ 24 % 256 ∷ []

-- the status of a task in four words: its health, and for a fault its number, x and y
abbrev pub status_bytes : Health → List ℕ
status_bytes Well = word_bytes 0 ++ word_bytes 0 ++ word_bytes 0 ++ word_bytes 0
status_bytes Stopped = word_bytes 1 ++ word_bytes 0 ++ word_bytes 0 ++ word_bytes 0
status_bytes (Faulted f) = word_bytes 2 ++ word_bytes f.number ++ word_bytes f.x ++ word_bytes f.y

-- the answer is the status of the task
abbrev pub status_given : SendArgs → ℕ → Turn → Turn
status_given x index t = t ⨾ stored Own x.reply_base (status_bytes (task_at t.state index).health)

-- the task is restarted; the second word of the message says whether it is started, and 0 leaves it stopped
abbrev pub restart_made : Setup → SendArgs → ℕ → Turn → Turn
restart_made g x index t = t ⨾ restarted g index (not (number_at t.state.memory (x.message_base + 4) 4 == 0))

-- a task is made to fault; a faulted task does not change
abbrev pub injected_by : Setup → ℕ → Health → Turn → Turn
injected_by g i Well t = t ⨾ faulted g i injected_fault
injected_by g i Stopped t = t ⨾ faulted g i injected_fault
injected_by g i (Faulted f) t = t

unfoldable pub injected : Setup → ℕ → Turn → Turn
injected g i t = t ⨾ injected_by g i (task_at t.state i).health

-- the first task from an index on that has faulted; 0 if there is none
abbrev pub first_faulted : State → ℕ → ℕ
first_faulted s index = unwrap_or (find (λ i. is_faulted (task_at s i).health) (range_with_len index (length s.tasks - index))) 0

-- the answer is that task
abbrev pub fault_found : SendArgs → ℕ → Turn → Turn
fault_found x index t =
    let found = first_faulted t.state index in
    t ⨾ stored Own x.reply_base (word_bytes found) ⨾ noted (note.Find index found)

-- request 1 tells the status of a task, 2 restarts a task, 3 makes a task fault, 9 finds a task that has faulted
abbrev pub requests : List Request
requests =
    record { number = 1; message = 4; reply = 16; on_supervisor = true; does = λ g x index t. status_given x index t }
    ∷ record { number = 2; message = 8; reply = 0; on_supervisor = false; does = restart_made }
    ∷ record { number = 3; message = 4; reply = 0; on_supervisor = false; does = λ g x index t. injected g index t }
    ∷ record { number = 9; message = 4; reply = 4; on_supervisor = true; does = λ g x index t. fault_found x index t }
    ∷ []

-- ## the rows

-- the first word of the message names a task
abbrev pub served : Setup → ℕ → SendArgs → Option Request → Turn → Turn
served g c x None t = misused g c (usage_number BadKernelMessage) t
served g c x (Some o) t =
    let index = number_at t.state.memory x.message_base 4 in
    first_row (
    (not ((x.message_length == o.message) && nat_le o.reply x.reply_capacity), t ⨾ misused g c (usage_number BadKernelMessage))
    ∷ (nat_le (length t.state.tasks) index, t ⨾ misused g c (usage_number BadTaskIndex))
    ∷ ((index == 0) && not o.on_supervisor, t ⨾ misused g c (usage_number BadKernelMessage))
    ∷ []) (t ⨾ o.does g x index ⨾ goes_on_with c (0 ∷ o.reply ∷ []))

-- the request with a number
abbrev pub request_of : ℕ → Option Request
request_of number = find (λ o. o.number == number) requests

-- r4 bits 15 to 0 operation, r5 and r6 message, r7 and r8 reply buffer; leases are ignored
unfoldable pub requested : Setup → ℕ → Turn → Turn
requested g c t =
    let s = t.state in
    let x = send_args (arguments s c) in
    first_row (
    (not (c == 0), t ⨾ misused g c (usage_number NotSupervisor))
    ∷ (not (is_valid (message_of x)) || not (is_valid (reply_room x)), t ⨾ misused g c (usage_number InvalidSlice))
    ∷ (is_some (bad_byte g c Read (message_of x)), t ⨾ denied g c (access_number KernelRead) (bad_byte g c Read (message_of x)))
    ∷ (is_some (bad_byte g c Write (reply_room x)), t ⨾ denied g c (access_number KernelWrite) (bad_byte g c Write (reply_room x)))
    ∷ []) (t ⨾ served g c x (request_of x.operation))

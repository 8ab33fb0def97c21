-- What happens to a state within a turn. Each effect takes the turn so far, and appends its notes and writes.
-- (Hubris Reference: tasks, syscalls, supervision.)
use Rattle.words_core.specs.Regs.{program_counter}
use Rattle.std.specs.Prelude.{ℕ, ◌+◌, ◌-◌, ◌%◌, ◌^◌, Bool, false, not, List, [], ◌∷◌, ◌++◌, length, take, drop, filter, map, min, slice_set, slice_range, Option, None, Some, ◌==◌, if◌then◌else◌, bit_and, bit_or, fold}
use Rattle.std.specs.List.{range_with_len}
use Rattle.kernel_abi.specs.Ids.{id_of, dead_code_of}
use Rattle.kernel_abi.specs.declared.Ending.{Ending}
use Rattle.kernel_abi.specs.declared.Ending.TheVariants.{Client, Restart}
use Rattle.kernel_abi.specs.declared.Fault.{Fault}
use Rattle.kernel_abi.specs.declared.Health.{Health}
use Rattle.kernel_abi.specs.declared.Health.TheVariants.{Well, Stopped, Faulted}
use Rattle.kernel_abi.specs.declared.Note.{Note}
use Rattle.kernel_abi.specs.declared.Note.TheVariants as note
use Rattle.kernel_abi.specs.declared.Timer.{Timer}
use Rattle.kernel_abi.specs.declared.Given.{Given}
use Rattle.kernel_abi.specs.Devices.{DeviceData, devices_stored, devices_loaded, device_out}
use Rattle.words_core.specs.declared.Flags.{Flags}
use Rattle.task_table.specs.declared.Line.{Line}
use Rattle.mem_banks.specs.Memory.{with_bytes, bytes_at, copied as copied_memory}
use Rattle.task_table.specs.model.State.{Setup, TaskSetup, Task, Call, Taken, Listen, Any, One, KernelOnly, Slice, State, Ground, Write, Read, MessageFront, Turn}
use Rattle.task_table.specs.model.Reading.{task_at, setup_at, register, call_of, listen_of, no_flags}

-- ## one part of a state changed

unfoldable pub with_task : ℕ → Task → State → State
with_task i task s = record s { tasks = slice_set s.tasks i task }

-- the state without the call of a client; without the listen of a task
unfoldable pub without_call : ℕ → State → State
without_call i s = record s { calls = filter (λ c. not (c.client.index == i)) s.calls }

unfoldable pub without_listen : ℕ → State → State
without_listen i s = record s { listens = filter (λ l. not (l.task == i)) s.listens }

unfoldable pub with_listen : Listen → State → State
with_listen l s = record s { listens = s.listens ++ l ∷ [] }

-- the open call, taken if it is that of this client
abbrev pub taken_from : ℕ → Call → Call
taken_from i c = record c { phase = if c.client.index == i then Taken else c.phase }

unfoldable pub with_taken : ℕ → State → State
with_taken i s = record s { calls = map (taken_from i) s.calls }

-- ## the same, in a turn

-- one effect after another, in the order in which they happen
infixl 55 ◌⨾◌
abbrev pub ◌⨾◌ : Turn → (Turn → Turn) → Turn
t ⨾ effect = effect t

abbrev pub changed : (State → State) → Turn → Turn
changed f t = record t { state = f t.state }

unfoldable pub noted : Note → Turn → Turn
noted n t = record t { notes = t.notes ++ n ∷ [] }

-- a task gets these registers and flags
unfoldable pub with_processor : ℕ → List ℕ → Flags → Turn → Turn
with_processor i registers flags t =
    t ⨾ changed (with_task i record (task_at t.state i) { registers = registers; flags = flags })

unfoldable pub with_health : ℕ → Health → Turn → Turn
with_health i health t = t ⨾ changed (with_task i record (task_at t.state i) { health = health })

-- the writes of these bytes from an address on
abbrev pub writes_on : Ground → ℕ → List ℕ → List Write
writes_on on at [] = []
writes_on on at (byte ∷ bytes) = record { on = on; address = at; byte = byte } ∷ writes_on on (at + 1) bytes

-- bytes are written on this ground
unfoldable pub stored : Ground → ℕ → List ℕ → Turn → Turn
stored on at bytes t =
    record {
      state = record t.state { memory = with_bytes t.state.memory at bytes };
      notes = t.notes;
      writes = t.writes ++ writes_on on at bytes;
      reads = t.reads;
    }

-- bytes are copied on this ground
unfoldable pub copied : Ground → ℕ → ℕ → ℕ → Turn → Turn
copied on from to n t =
    record {
      state = record t.state { memory = copied_memory t.state.memory from to n };
      notes = t.notes;
      writes = t.writes ++ writes_on on to (bytes_at t.state.memory from n);
      reads = t.reads;
    }

-- bytes of another task are read
unfoldable pub looked : Read → Turn → Turn
looked r t = record t { reads = t.reads ++ r ∷ [] }

-- ## a system call ends

-- these registers, with values from r4 on
abbrev pub with_results : List ℕ → List ℕ → List ℕ
with_results values registers = take 4 registers ++ values ++ drop (4 + length values) registers

-- results are given to a task, from r4 on
unfoldable pub given : ℕ → List ℕ → Turn → Turn
given i values t =
    t ⨾ changed (with_task i record (task_at t.state i) { registers = with_results values (task_at t.state i).registers })

-- a system call of the task has ended, with its r4 to r9
unfoldable pub returned : ℕ → Turn → Turn
returned i t = t ⨾ noted (note.Ret i (slice_range (task_at t.state i).registers 4 10))

-- the program counter of a task goes past its system call
unfoldable pub past_syscall : ℕ → Turn → Turn
past_syscall i t =
    t ⨾ changed (with_task i record (task_at t.state i) { registers = slice_set (task_at t.state i).registers program_counter ((register t.state i program_counter + 2) % 2 ^ 32) })

-- ## bits are posted

-- bits are added to those of a task
unfoldable pub bits_added : ℕ → ℕ → Turn → Turn
bits_added i bits t =
    let posted = bit_or (task_at t.state i).posted bits in
    t ⨾ changed (with_task i record (task_at t.state i) { posted = posted }) ⨾ noted (note.Post i bits posted)

-- the bits of a task that are in a mask are cleared
unfoldable pub bits_cleared : ℕ → ℕ → Turn → Turn
bits_cleared i mask t =
    t ⨾ changed (with_task i record (task_at t.state i) { posted = bit_and (task_at t.state i).posted (2 ^ 32 - 1 - mask) })

-- if a task listens and has posted bits under its mask, it takes them and no longer listens
abbrev pub woken_by : ℕ → Option Listen → Turn → Turn
woken_by i None t = t
woken_by i (Some l) t =
    let under = bit_and (task_at t.state i).posted l.mask in
    if under == 0 then t
    else (t ⨾ changed (without_listen i) ⨾ bits_cleared i l.mask ⨾ given i (0 ∷ 0xFFFF ∷ under ∷ 0 ∷ 0 ∷ 0 ∷ []) ⨾ returned i)

unfoldable pub woken : ℕ → Turn → Turn
woken i t = woken_by i (listen_of t.state i) t

-- bits are posted to a task, of any health: they are added, and may wake it
unfoldable pub posted : ℕ → ℕ → Turn → Turn
posted i bits t = t ⨾ bits_added i bits ⨾ woken i

-- ## timers, time and lines

-- the timer of a task is set, or off
unfoldable pub with_timer : ℕ → Option Timer → Turn → Turn
with_timer i timer t = t ⨾ changed (with_task i record (task_at t.state i) { timer = timer })

-- the time advances by one tick
unfoldable pub clocked : Turn → Turn
clocked t = t ⨾ changed (λ s. record s { now = s.now + 1 }) ⨾ noted (note.Tick (t.state.now + 1))

-- an interrupt line gets this state; if there is no such line, nothing changes
unfoldable pub with_line : ℕ → Line → Turn → Turn
with_line k line t = t ⨾ changed (λ s. record s { lines = slice_set s.lines k line })

-- ## devices

-- the devices become these
unfoldable pub with_devices : List DeviceData → Turn → Turn
with_devices devices t = t ⨾ changed (λ s. record s { devices = devices })

-- a byte is given out, if there is one
abbrev pub given_out : Option Given → Turn → Turn
given_out None t = t
given_out (Some x) t = t ⨾ noted (note.Out x.device x.byte)

-- a value is stored to the device behind an address, which may give a byte out
unfoldable pub device_stored : ℕ → ℕ → Turn → Turn
device_stored addr value t =
    t ⨾ with_devices (devices_stored t.state.devices addr) ⨾ given_out (device_out t.state.devices addr value)

-- a load from the device behind an address removes what it gave from the device
unfoldable pub device_taken : ℕ → Turn → Turn
device_taken addr t = t ⨾ with_devices (devices_loaded t.state.devices addr)

-- ## a task faults

-- the call of a client is closed, if it has one
abbrev pub close_notes : Ending → Option Call → List Note
close_notes ending None = []
close_notes ending (Some c) = note.Close c.number ending ∷ []

unfoldable pub closed : ℕ → Ending → Turn → Turn
closed i ending t =
    record t { state = without_call i t.state; notes = t.notes ++ close_notes ending (call_of t.state i) }

-- The task becomes Faulted, its listen is dropped, and the call of which it is the client is closed. The fault bits
-- are posted to task 0; a fault of task 0 itself posts nothing. Calls of which the task is the server stay open.
unfoldable pub faulted_as : Setup → ℕ → Fault → Ending → Turn → Turn
faulted_as g i fault ending t =
    let shut = t ⨾ with_health i (Faulted fault) ⨾ changed (without_listen i) ⨾ noted (note.Fault i fault) ⨾ closed i ending in
    if i == 0 then shut else (shut ⨾ posted 0 g.fault_bits)

-- the same, for a fault that its server did not cause
abbrev pub faulted : Setup → ℕ → Fault → Turn → Turn
faulted g i fault t = faulted_as g i fault Client t

-- ## a call is offered

-- the call becomes open, under the next number
unfoldable pub with_call : Call → State → State
with_call k s = record s { calls = s.calls ++ k ∷ []; next_call = s.next_call + 1 }

unfoldable pub offered : Call → Turn → Turn
offered k t = t ⨾ changed (with_call k) ⨾ noted (note.Offer k.number k.client.index k.server.index)

-- ## a call is handed over

-- the open call of a client goes to its server, with as much of its message as fits into a buffer
unfoldable pub handed : Ground → Call → Slice → Turn → Turn
handed on c buffer t =
    let n = min c.message.len buffer.len in
    t
    ⨾ looked record { call = c.number; part = MessageFront; base = c.message.base; len = n }
    ⨾ copied on c.message.base buffer.base n
    ⨾ changed (with_taken c.client.index)
    ⨾ noted (note.Take c.number n)
    ⨾ changed (without_listen c.server.index)
    ⨾ given c.server.index (0 ∷ id_of c.client.index c.client.birth ∷ c.operation ∷ c.message.len ∷ c.reply.len ∷ c.leases ∷ [])

-- ## a task at birth

-- all registers and flags are zero except SP, LR and PC
abbrev pub at_birth : TaskSetup → ℕ → Health → Task
at_birth setup births health =
    record {
      births = births;
      registers = 0 ∷ 0 ∷ 0 ∷ 0 ∷ 0 ∷ 0 ∷ 0 ∷ 0 ∷ 0 ∷ 0 ∷ 0 ∷ 0 ∷ 0 ∷ setup.stack ∷ 0xFFFFFFFF ∷ (setup.entry - setup.entry % 2) ∷ [];
      flags = no_flags;
      health = health;
      posted = 0;
      timer = None;
    }

-- ## a task is born again

-- its number of births rises by one, and the rest is as at birth
unfoldable pub reborn : Setup → ℕ → Bool → State → State
reborn g i start s =
    with_task i (at_birth (setup_at g i) ((task_at s i).births + 1) (if start then Well else Stopped)) s

-- the call is to a task; the listen is for that task only
abbrev pub is_to : ℕ → Option Call → Bool
is_to i None = false
is_to i (Some c) = c.server.index == i

abbrev pub awaits : ℕ → Option Listen → Bool
awaits i None = false
awaits i (Some l) = elim l.from [ Any ↦ false | One b ↦ b.index == i | KernelOnly ↦ false ]

-- another task that waited for task i gets the dead code, with the generation that i has now
abbrev pub dead_answered : ℕ → Turn → ℕ → Turn
dead_answered i t j =
    let code = dead_code_of ((task_at t.state i).births % 64) in
    if is_to i (call_of t.state j) then (t ⨾ closed j Restart ⨾ given j (code ∷ 0 ∷ []) ⨾ returned j)
    else (if awaits i (listen_of t.state j)
    then (t ⨾ changed (without_listen j) ⨾ given j (code ∷ 0 ∷ 0 ∷ 0 ∷ 0 ∷ 0 ∷ []) ⨾ returned j)
    else t)

-- the call and the listen of the task are dropped, and it is born again; then each other task that waited for it
-- gets the dead code, in the order of their indices
unfoldable pub restarted : Setup → ℕ → Bool → Turn → Turn
restarted g i start t =
    let born = t ⨾ closed i Restart ⨾ changed (without_listen i) ⨾ changed (reborn g i start) in
    let marked = born ⨾ noted (note.Restart i ((task_at born.state i).births % 64)) in
    fold (dead_answered i) marked (range_with_len 0 (length t.state.tasks))

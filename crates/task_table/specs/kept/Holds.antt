-- When the code's kernel stands for a turn of the abstract kernel.
use Rattle.std.specs.Prelude.{ℕ, ◌%◌, ◌<◌, ◌≡◌, Bool, true, false, ◌&&◌, List, length, map, Option, Some, None, IfSome, slice_index_or, ◌==◌, if◌then◌else◌}
use Rattle.kernel_abi.specs.Ids.{id_of, index_of}
use Rattle.kernel_abi.specs.declared.Note.{Note}
use Rattle.kernel_abi.specs.declared.TaskId.{TaskId}
use Rattle.task_table.specs.declared.Line.{Line}
use Rattle.task_table.specs.declared.entry.KeptEntry.{KeptEntry}
use Rattle.task_table.specs.declared.kernel.Kernel.{Kernel}
use Rattle.task_table.specs.declared.order.Order.{Order}
use Rattle.task_table.specs.declared.slot.Listening.{Listening}
use Rattle.task_table.specs.declared.slot.OpenCall.{OpenCall}
use Rattle.task_table.specs.declared.slot.Slot.{Slot}
use Rattle.task_table.specs.declared.slot.FromId.{FromId}
use Rattle.task_table.specs.declared.slot.FromId.TheVariants as from_id
use Rattle.task_table.specs.declared.slot.Wait.{Wait}
use Rattle.task_table.specs.declared.slot.Wait.TheVariants as wait
use Rattle.mem_banks.specs.Memory.{Memory}
use Rattle.task_table.specs.kept.Parts.{task_setup, line_setup}
use Rattle.task_table.specs.model.Sane.{Sane}
use Rattle.task_table.specs.model.State.{Setup, Task, Birth, Call, Listen, State, Taken, Slice, From, Any, One, KernelOnly, Turn}
use Rattle.task_table.specs.model.Reading.{is_offered, is_taken, task_at, call_of, listen_of}

-- ## one task

abbrev pub id_at : Birth → TaskId
id_at b = record { number = id_of b.index b.birth }

-- an open call and a listen, with ids instead of births
abbrev pub kept_call : Call → OpenCall
kept_call c =
    record {
      number = c.number;
      client = id_at c.client;
      server = id_at c.server;
      operation = c.operation;
      message = c.message;
      reply = c.reply;
      table = c.table;
      leases = c.leases;
      phase = c.phase;
    }

abbrev pub from_id_of : From → FromId
from_id_of Any = from_id.Any
from_id_of (One b) = from_id.One (id_at b)
from_id_of KernelOnly = from_id.Kernel

abbrev pub kept_listen : Listen → Listening
kept_listen l = record { from = from_id_of l.from; mask = l.mask; buffer = l.buffer }

-- what a task waits for, by its open call and its listen
abbrev pub wait_of : Option Call → Option Listen → Wait
wait_of (Some c) l = wait.Call (kept_call c)
wait_of None (Some l) = wait.Listen (kept_listen l)
wait_of None None = wait.Nothing

-- the slot of a task with this wait; its number of births is kept modulo 64
abbrev pub packed_task : Task → Wait → Slot
packed_task task waits =
    record {
      generation = record { number = task.births % 64 };
      registers = task.registers;
      flags = task.flags;
      health = task.health;
      posted = task.posted;
      timer = task.timer;
      wait = waits;
    }

abbrev pub packed : State → ℕ → Slot
packed s i = packed_task (task_at s i) (wait_of (call_of s i) (listen_of s i))

pub record IsKept (s : State) (i : ℕ) (slot : Slot) : Type 0 where
  pub is : slot ≡ packed s i
  pub alone : IfSome (call_of s i) (λ c. listen_of s i ≡ None)

-- ## what is read off a slot

-- the call that the task waits to end
abbrev pub call_in : Wait → Option OpenCall
call_in (wait.Call c) = Some c
call_in (wait.Listen l) = None
call_in wait.Nothing = None

-- what the task listens for
abbrev pub listen_in : Wait → Option Listening
listen_in (wait.Call c) = None
listen_in (wait.Listen l) = Some l
listen_in wait.Nothing = None

-- the call is offered to the server with an index
abbrev pub is_offer_to : OpenCall → ℕ → Bool
is_offer_to c server = (index_of c.server.number == server) && is_offered c.phase

abbrev pub offered_in : Wait → ℕ → Option OpenCall
offered_in (wait.Call c) server = if is_offer_to c server then Some c else None
offered_in (wait.Listen l) server = None
offered_in wait.Nothing server = None

-- the server with an index has taken the call
abbrev pub is_taken_at : OpenCall → ℕ → Bool
is_taken_at c server = (index_of c.server.number == server) && is_taken c.phase

abbrev pub taken_in : Wait → ℕ → Option OpenCall
taken_in (wait.Call c) server = if is_taken_at c server then Some c else None
taken_in (wait.Listen l) server = None
taken_in wait.Nothing server = None

-- a message of the task with an id is accepted, and into which buffer it goes
abbrev pub hears : FromId → TaskId → Bool
hears from_id.Any client = true
hears (from_id.One id) client = id.number == client.number
hears from_id.Kernel client = false

abbrev pub buffer_in : Wait → TaskId → Option Slice
buffer_in (wait.Call c) client = None
buffer_in (wait.Listen l) client = if hears l.from client then Some l.buffer else None
buffer_in wait.Nothing client = None

-- the wait after its call is taken
abbrev pub taken_wait : Wait → Wait
taken_wait (wait.Call c) = wait.Call record c { phase = Taken }
taken_wait (wait.Listen l) = wait.Listen l
taken_wait wait.Nothing = wait.Nothing

-- ## all of it

abbrev pub task_count : Kernel → ℕ
task_count k = length k.slots.items

abbrev pub note_count : Kernel → ℕ
note_count k = length k.notes.items

abbrev pub notes_of : Kernel → List Note
notes_of k = k.notes.items

abbrev pub current_of : Kernel → ℕ
current_of k = k.current

abbrev pub clock_of : Kernel → ℕ
clock_of k = k.clock

abbrev pub next_call_of : Kernel → ℕ
next_call_of k = k.next_call

abbrev pub memory_of : Kernel → Memory
memory_of k = k.memory.bytes

abbrev pub entries_of : Kernel → List (Option KeptEntry)
entries_of k = k.entries.items

-- the order in which its tasks are chosen
abbrev pub order_of : Kernel → Order
order_of k = k.order

-- the setup that the kernel keeps
abbrev pub setup_of : Kernel → Setup
setup_of k =
    record {
      tasks = map task_setup k.tasks.items;
      lines = map line_setup k.owners.items;
      fault_bits = k.fault_bits;
      flash = k.memory.bytes.flash;
      ram = length k.memory.bytes.ram;
      line_count = length k.lines;
    }

-- the parts of the code's kernel that correspond to a turn
pub record Kept : Type 0 where
  pub setup : Setup
  pub slots : List Slot
  pub notes : List Note
  pub memory : Memory
  pub clock : ℕ
  pub lines : List Line
  pub current : ℕ
  pub next_call : ℕ

abbrev pub kept_of : Kernel → Kept
kept_of k =
    record {
      setup = setup_of k;
      slots = k.slots.items;
      notes = k.notes.items;
      memory = k.memory.bytes;
      clock = k.clock;
      lines = k.lines;
      current = k.current;
      next_call = k.next_call;
    }

-- these parts are exactly those of the turn
pub record Shows (g : Setup) (k : Kept) (t : Turn) : Type 0 where
  pub setup : k.setup ≡ g
  pub count : length k.slots ≡ length t.state.tasks
  pub many : length g.tasks ≡ length t.state.tasks
  pub tasks : (i : ℕ) → i < length k.slots → (d : Slot) → IsKept t.state i (slice_index_or k.slots i d)
  pub notes : k.notes ≡ t.notes
  pub memory : k.memory ≡ t.state.memory
  pub now : k.clock ≡ t.state.now
  pub lines : k.lines ≡ t.state.lines
  pub current : k.current ≡ t.state.current
  pub next_call : k.next_call ≡ t.state.next_call

abbrev pub Holds : Setup → Kernel → Turn → Type 0
Holds g k t = Shows g (kept_of k) t

-- the kernel holds the turn, and its state is sane
pub record Stands (g : Setup) (k : Kernel) (t : Turn) : Type 0 where
  pub holds : Holds g k t
  pub sane : Sane g t.state

-- the kernel stands for some turn
abbrev pub StandsForSome : Kernel → Type 0
StandsForSome k = (g : Setup) × (t : Turn) × Stands g k t

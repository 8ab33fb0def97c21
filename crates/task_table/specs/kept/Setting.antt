-- Setting a part of a state: what a slot says of its task, with the births that its ids name.
use Rattle.std.specs.Prelude.{ℕ, ◌≡◌, ◌+◌, ◌*◌, ◌<◌, [], ◌∷◌, ◌++◌, length}
use Rattle.kernel_abi.specs.Ids.{index_of, generation_of}
use Rattle.kernel_abi.specs.declared.TaskId.{TaskId}
use Rattle.task_table.specs.declared.slot.FromId.{FromId}
use Rattle.task_table.specs.declared.slot.FromId.TheVariants as from_id
use Rattle.task_table.specs.declared.slot.Listening.{Listening}
use Rattle.task_table.specs.declared.slot.OpenCall.{OpenCall}
use Rattle.task_table.specs.declared.slot.Slot.{Slot}
use Rattle.task_table.specs.declared.slot.Wait.{Wait}
use Rattle.task_table.specs.declared.slot.Wait.TheVariants as wait
use Rattle.task_table.specs.model.State.{Task, Birth, Call, Listen, State, From, Any, One, KernelOnly}
use Rattle.task_table.specs.model.Effects.{with_task, without_call, without_listen, with_listen}
use Rattle.task_table.specs.kept.Holds.{packed}

-- the birth that an id names, with its generation as the number of births
abbrev pub birth_of : TaskId → Birth
birth_of id = record { index = index_of id.number; birth = generation_of id.number }

abbrev pub call_told : OpenCall → Call
call_told c =
    record {
      number = c.number;
      client = birth_of c.client;
      server = birth_of c.server;
      operation = c.operation;
      message = c.message;
      reply = c.reply;
      table = c.table;
      leases = c.leases;
      phase = c.phase;
    }

abbrev pub from_told : FromId → From
from_told from_id.Any = Any
from_told (from_id.One id) = One (birth_of id)
from_told from_id.Kernel = KernelOnly

abbrev pub listen_told : ℕ → Listening → Listen
listen_told i l = record { task = i; from = from_told l.from; mask = l.mask; buffer = l.buffer }

-- the task of a slot; its number of births is its generation
abbrev pub task_told : Slot → Task
task_told slot =
    record {
      births = slot.generation.number;
      registers = slot.registers;
      flags = slot.flags;
      health = slot.health;
      posted = slot.posted;
      timer = slot.timer;
    }

-- one more call is open
unfoldable pub with_open_call : Call → State → State
with_open_call c s = record s { calls = s.calls ++ c ∷ [] }

-- task i also has this wait
abbrev pub with_wait : ℕ → Wait → State → State
with_wait i (wait.Call c) s = with_open_call (call_told c) s
with_wait i (wait.Listen l) s = with_listen (listen_told i l) s
with_wait i wait.Nothing s = s

-- task i is as this slot says, and has the slot's wait and no other
unfoldable pub with_slot : ℕ → Slot → State → State
with_slot i slot s = with_wait i slot.wait (without_listen i (without_call i (with_task i (task_told slot) s)))

-- the slots that may be set for task i: ids have 16 bits, the generation has six, and if it waits for a call, it is
-- the client of that call
pub record IsTold (i : ℕ) (slot : Slot) : Type 0 where
  pub generation : slot.generation.number < 64
  pub client : (c : OpenCall) → slot.wait ≡ wait.Call c → c.client.number ≡ i + 1024 * slot.generation.number
  pub server : (c : OpenCall) → slot.wait ≡ wait.Call c → c.server.number < 65536
  pub named : (l : Listening) (id : TaskId) → slot.wait ≡ wait.Listen l → l.from ≡ from_id.One id → id.number < 65536

-- a kernel keeps the same of both states. Of births it keeps only the generation. Of calls and listens it keeps
-- which task has them, but no order.
pub record AreKeptAlike (s u : State) : Type 0 where
  pub count : length u.tasks ≡ length s.tasks
  pub tasks : (i : ℕ) → i < length s.tasks → packed u i ≡ packed s i
  pub memory : u.memory ≡ s.memory
  pub now : u.now ≡ s.now
  pub lines : u.lines ≡ s.lines
  pub current : u.current ≡ s.current
  pub next_call : u.next_call ≡ s.next_call
  pub turn : u.turn ≡ s.turn
  pub devices : u.devices ≡ s.devices

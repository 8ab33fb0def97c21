-- Which bytes a state is saved as.
use Rattle.std.specs.Prelude.{ℕ, ◌≡◌, ◌+◌, ◌*◌, ◌-◌, Bool, List, [], ◌∷◌, ◌++◌, length, map, replicate, Option, Some, None, if◌then◌else◌}
use Rattle.std.specs.List.{range_with_len}
use Rattle.kernel_abi.specs.Ids.{id_of}
use Rattle.kernel_abi.specs.declared.Fault.{Fault}
use Rattle.kernel_abi.specs.declared.Health.{Health}
use Rattle.kernel_abi.specs.declared.Health.TheVariants.{Well, Stopped, Faulted}
use Rattle.kernel_abi.specs.declared.Timer.{Timer}
use Rattle.kernel_abi.specs.Devices.{DeviceData, queue_limit}
use Rattle.words_core.specs.declared.Flags.{Flags}
use Rattle.task_table.specs.declared.Line.{Line}
use Rattle.task_table.specs.model.State.{Setup, Task, Call, Listen, From, Any, One, KernelOnly, State}
use Rattle.task_table.specs.model.Reading.{task_at, line_at, call_of, listen_of, is_offered}
use Rattle.board_model.specs.Alike.{reduced}
use Rattle.snapshot.specs.declared.records.TaskRecord.{TaskRecord}
use Rattle.snapshot.specs.declared.records.DeviceRecord.{DeviceRecord}
use Rattle.snapshot.specs.Records.{Parts, bytes_of}
use Rattle.snapshot.specs.Causes.{Expected}

-- ## a task

abbrev pub bit : Bool → ℕ → ℕ
bit set value = if set then value else 0

abbrev pub health_number : Health → ℕ
health_number Well = 0
health_number Stopped = 1
health_number (Faulted f) = 2

-- its fault, or all zeros if it has none
abbrev pub fault_of : Health → Fault
fault_of Well = record { number = 0; x = 0; y = 0 }
fault_of Stopped = record { number = 0; x = 0; y = 0 }
fault_of (Faulted f) = f

abbrev pub flags_number : Flags → ℕ
flags_number f = bit f.n 8 + bit f.z 4 + bit f.c 2 + bit f.v 1

abbrev pub timer_flag : Option Timer → ℕ
timer_flag None = 0
timer_flag (Some x) = 1

abbrev pub timer_of : Option Timer → Timer
timer_of None = record { deadline = 0; bits = 0 }
timer_of (Some x) = x

abbrev pub from_number : From → ℕ
from_number Any = 3
from_number KernelOnly = 4
from_number (One b) = 5

abbrev pub from_id : From → ℕ
from_id Any = 0
from_id KernelOnly = 0
from_id (One b) = id_of b.index b.birth

-- what it waits for: 0 nothing, 1 an offered call, 2 a taken call, 3 to 5 a message, by whose message it may
-- be
abbrev pub wait_number : Option Call → Option Listen → ℕ
wait_number (Some c) listen = if is_offered c.phase then 1 else 2
wait_number None (Some l) = from_number l.from
wait_number None None = 0

abbrev pub wait_words : Option Call → Option Listen → List ℕ
wait_words (Some c) listen =
    c.number ∷ (id_of c.server.index c.server.birth + 65536 * c.operation) ∷ c.message.base ∷ c.message.len ∷ c.reply.base ∷ c.reply.len ∷ c.table ∷ c.leases ∷ []
wait_words None (Some l) = l.mask ∷ from_id l.from ∷ l.buffer.base ∷ l.buffer.len ∷ 0 ∷ 0 ∷ 0 ∷ 0 ∷ []
wait_words None None = 0 ∷ 0 ∷ 0 ∷ 0 ∷ 0 ∷ 0 ∷ 0 ∷ 0 ∷ []

abbrev pub record_told : Task → Option Call → Option Listen → TaskRecord
record_told t call listen =
    record {
      generation = t.births;
      health = health_number t.health;
      fault = (fault_of t.health).number;
      wait = wait_number call listen;
      x = (fault_of t.health).x;
      y = (fault_of t.health).y;
      registers = t.registers;
      flags = flags_number t.flags;
      posted = t.posted;
      timer = timer_flag t.timer;
      deadline = (timer_of t.timer).deadline;
      bits = (timer_of t.timer).bits;
      words = wait_words call listen;
    }

abbrev pub record_of : State → ℕ → TaskRecord
record_of s i = record_told (task_at s i) (call_of s i) (listen_of s i)

-- ## a device

-- the bytes that wait, padded with zeros
abbrev pub device_told : DeviceData → DeviceRecord
device_told d = record { count = d.count; queued = length d.queue; queue = d.queue ++ replicate (queue_limit - length d.queue) 0 }

-- ## the state

abbrev pub line_number : Line → ℕ
line_number l = bit l.enabled 1 + bit l.pending 2

abbrev pub parts_of : State → Parts
parts_of s =
    record {
      header = record {
        turn = s.turn;
        tasks = length s.tasks;
        ram = length s.memory.ram;
        clock = s.now;
        current = s.current;
        next_call = s.next_call;
        devices = length s.devices;
      };
      lines = map (λ k. line_number (line_at s k)) (range_with_len 0 64);
      tasks = map (record_of s) (range_with_len 0 (length s.tasks));
      devices = map device_told s.devices;
      ram = s.memory.ram;
    }

abbrev pub spelling : State → List ℕ
spelling s = bytes_of (parts_of s)

-- the bytes spell this state of an image, in which every birth is below 64
pub record SpellsState (g : Setup) (s : State) (bytes : List ℕ) : Type 0 where
  pub tasks : length s.tasks ≡ length g.tasks
  pub lines : length s.lines ≡ g.line_count
  pub flash : s.memory.flash ≡ g.flash
  pub ram : length s.memory.ram ≡ g.ram
  pub small : reduced s ≡ s
  pub is : bytes ≡ spelling s

-- ## what a saved state of an image with these devices must fit

abbrev pub expected_of : Setup → List DeviceData → Expected
expected_of g devices =
    record {
      regions = map (λ t. t.regions) g.tasks;
      ram = g.ram;
      owned = map (λ l. l.line) g.lines;
      kinds = map (λ d. d.kind) devices;
    }

-- The state that bytes spell.
use Rattle.std.specs.Prelude.{◌≡◌, ℕ, ◌+◌, ◌/◌, ◌%◌, ◌==◌, List, length, map, drop, slice_index, filter_map, Option, Some, None, if◌then◌else◌}
use Rattle.std.specs.List.{range_with_len}
use Rattle.kernel_abi.specs.declared.Fault.{Fault}
use Rattle.kernel_abi.specs.declared.Health.{Health}
use Rattle.kernel_abi.specs.declared.Health.TheVariants.{Well, Stopped, Faulted}
use Rattle.kernel_abi.specs.declared.Timer.{Timer}
use Rattle.kernel_abi.specs.Devices as device
use Rattle.words_core.specs.declared.Flags.{Flags}
use Rattle.task_table.specs.declared.Line.{Line}
use Rattle.task_table.specs.model.State.{Setup, Task, Birth, Call, Listen, From, Any, One, KernelOnly, State}
use Rattle.task_table.specs.declared.slot.Phase.{Phase}
use Rattle.task_table.specs.declared.slot.Phase.TheVariants.{Offered, Taken}
use Rattle.task_table.specs.declared.slot.Slice.{Slice}
use Rattle.snapshot.specs.declared.records.TaskRecord.{TaskRecord}
use Rattle.snapshot.specs.declared.records.DeviceRecord.{DeviceRecord}
use Rattle.snapshot.specs.Records.{header_at, task_in, device_in, ram_place}
use Rattle.snapshot.specs.Causes.{word}
use Rattle.snapshot.specs.Saved.{expected_of}
use Rattle.snapshot.specs.Waits.{is_call, is_listen, server_id, state_fault}
use Rattle.snapshot.specs.Accepted.{waiting}

-- the bytes are not refused as a state of this image with these devices
abbrev pub IsNotRefused : Setup → List device.DeviceData → List ℕ → Type 0
IsNotRefused g devices bytes = state_fault (expected_of g devices) bytes ≡ None

-- ## a task

abbrev pub health_from : ℕ → Fault → Health
health_from number fault = if number == 0 then Well else (if number == 1 then Stopped else Faulted fault)

abbrev pub flags_from : ℕ → Flags
flags_from n = record { n = n / 8 % 2 == 1; z = n / 4 % 2 == 1; c = n / 2 % 2 == 1; v = n % 2 == 1 }

abbrev pub timer_from : ℕ → Timer → Option Timer
timer_from flag timer = if flag == 0 then None else Some timer

abbrev pub task_from : TaskRecord → Task
task_from t =
    record {
      births = t.generation;
      registers = t.registers;
      flags = flags_from t.flags;
      health = health_from t.health record { number = t.fault; x = t.x; y = t.y };
      posted = t.posted;
      timer = timer_from t.timer record { deadline = t.deadline; bits = t.bits };
    }

-- ## what it waits for

-- the birth that an id names, numbered by the generation in the id
abbrev pub birth_from : ℕ → Birth
birth_from id = record { index = id % 1024; birth = id / 1024 }

abbrev pub slice_from : TaskRecord → ℕ → Slice
slice_from t k = record { base = word t k; len = word t (k + 1) }

abbrev pub phase_from : ℕ → Phase
phase_from wait = if wait == 1 then Offered else Taken

abbrev pub call_from : ℕ → TaskRecord → Call
call_from i t =
    record {
      number = word t 0;
      client = record { index = i; birth = t.generation };
      server = birth_from (server_id t);
      operation = word t 1 / 65536;
      message = slice_from t 2;
      reply = slice_from t 4;
      table = word t 6;
      leases = word t 7;
      phase = phase_from t.wait;
    }

abbrev pub senders_from : ℕ → ℕ → From
senders_from wait id = if wait == 3 then Any else (if wait == 4 then KernelOnly else One (birth_from id))

abbrev pub listen_from : ℕ → TaskRecord → Listen
listen_from i t = record { task = i; from = senders_from t.wait (word t 1); mask = word t 0; buffer = slice_from t 2 }

-- the call and the listen of task i, if its record has one
abbrev pub call_in : ℕ → TaskRecord → Option Call
call_in i t = if is_call t then Some (call_from i t) else None

abbrev pub listen_in : ℕ → TaskRecord → Option Listen
listen_in i t = if is_listen t then Some (listen_from i t) else None

-- ## a line, and a device

abbrev pub line_from : ℕ → Line
line_from byte = record { enabled = byte == 1; pending = byte == 2 }

-- a device of the same kind and at the same base as d, with the count and the queue of a record
abbrev pub device_from : device.DeviceData → DeviceRecord → device.DeviceData
device_from d r = record d { count = r.count; queue = waiting r }

-- ## the state

-- the state of an image with these devices; its calls and listens are in the order of the tasks
unfoldable pub state_in : Setup → List device.DeviceData → List ℕ → State
state_in g devices bytes =
    let tasks = range_with_len 0 (length g.tasks) in
    record {
      turn = (header_at bytes).turn;
      memory = record { flash = g.flash; ram = drop (ram_place (length g.tasks) (length devices)) bytes };
      tasks = map (λ i. task_from (task_in bytes i)) tasks;
      calls = filter_map (λ i. call_in i (task_in bytes i)) tasks;
      listens = filter_map (λ i. listen_in i (task_in bytes i)) tasks;
      now = (header_at bytes).clock;
      lines = map (λ k. line_from (slice_index bytes (36 + k))) (range_with_len 0 64);
      current = (header_at bytes).current;
      next_call = (header_at bytes).next_call;
      devices = map (λ k. device_from (device.device_at devices k) (device_in bytes (length g.tasks) k)) (range_with_len 0 (length devices));
    }

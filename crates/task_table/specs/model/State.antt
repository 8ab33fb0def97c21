-- The state of the abstract kernel. (Hubris Reference: task ids and generations, IPC, leases, notifications;
-- docs/FORMATS.md says what this project chooses where the reference leaves a choice: its profile.)
use Rattle.std.specs.Prelude.{ℕ, List, Option, Bool}
use Rattle.kernel_abi.specs.declared.Health.{Health}
use Rattle.words_core.specs.declared.Flags.{Flags}
use Rattle.kernel_abi.specs.declared.Timer.{Timer}
use Rattle.kernel_abi.specs.declared.Note.{Note}
use Rattle.kernel_abi.specs.Devices.{DeviceData}
use Rattle.region_check.specs.declared.Region.{Region}
use Rattle.mem_banks.specs.Memory.{Memory}
use Rattle.task_table.specs.declared.Line.{Line}
pub use Rattle.task_table.specs.declared.slot.Phase.{Phase}
pub use Rattle.task_table.specs.declared.slot.Phase.TheVariants.{Offered, Taken}
pub use Rattle.task_table.specs.declared.slot.Slice.{Slice}

-- what the image says of a task
pub record TaskSetup : Type 0 where
  pub priority : ℕ
  pub entry : ℕ
  pub stack : ℕ
  pub regions : List Region
  pub start : Bool

pub record LineSetup : Type 0 where
  pub line : ℕ
  pub owner : ℕ
  pub bits : ℕ
  pub device : ℕ  -- the first address of the device that drives it; 0, where no device is, if none does

-- what the image says of all tasks and lines; it never changes in a run
pub record Setup : Type 0 where
  pub tasks : List TaskSetup
  pub lines : List LineSetup
  pub fault_bits : ℕ
  pub flash : List ℕ  -- the bytes of the flash
  pub ram : ℕ  -- how many bytes
  pub line_count : ℕ  -- how many interrupt lines the board has

pub record Task : Type 0 where
  pub births : ℕ  -- how often the task was restarted, without bound
  pub registers : List ℕ  -- sixteen
  pub flags : Flags
  pub health : Health
  pub posted : ℕ  -- the posted bits
  pub timer : Option Timer

-- one of the births of a task
pub record Birth : Type 0 where
  pub index : ℕ
  pub birth : ℕ

pub record Call : Type 0 where
  pub number : ℕ
  pub client : Birth
  pub server : Birth
  pub operation : ℕ
  pub message : Slice
  pub reply : Slice
  pub table : ℕ
  pub leases : ℕ
  pub phase : Phase

pub data From : Type 0 where
  Any : From
  One : Birth → From
  KernelOnly : From

pub record Listen : Type 0 where
  pub task : ℕ
  pub from : From
  pub mask : ℕ
  pub buffer : Slice

pub record State : Type 0 where
  pub turn : ℕ
  pub memory : Memory
  pub tasks : List Task
  pub calls : List Call  -- the open calls
  pub listens : List Listen
  pub now : ℕ
  pub lines : List Line
  pub current : ℕ
  pub next_call : ℕ
  pub devices : List DeviceData

-- on whose ground a byte is written
pub data Ground : Type 0 where
  Own : Ground
  Message : ℕ → Ground
  Reply : ℕ → Ground
  Lease : ℕ → Ground

pub record Write : Type 0 where
  pub on : Ground
  pub address : ℕ
  pub byte : ℕ

-- what a turn reads of another task for its own: the front of a message, an entry of a lease table with its
-- contents, or the bytes of a lease
pub data Part : Type 0 where
  MessageFront : Part
  Entry : ℕ → ℕ → ℕ → Part  -- attributes, base, length
  Leased : Part

pub record Read : Type 0 where
  pub call : ℕ
  pub part : Part
  pub base : ℕ
  pub len : ℕ

-- a turn so far: the state, and the notes, writes and reads that led to it
pub record Turn : Type 0 where
  pub state : State
  pub notes : List Note
  pub writes : List Write
  pub reads : List Read

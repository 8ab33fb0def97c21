-- What a task sees: a window of its memory and, beside it, the devices, through the I/O regions of the task.
use Rattle.std.specs.Prelude.{ℕ, zero, suc, ◌≡◌, ◌⊎◌, ◌%◌, Bool, true, false, ◌&&◌, if◌then◌else◌, List, fold, filter, None, Some, Result, MatchResult}
use Rattle.std.specs.List.{list_any}
use Rattle.kernel_abi.specs.Devices.{DeviceData, device_number, devices_loaded}
use Rattle.region_check.specs.declared.Region.{Region}
use Rattle.region_check.specs.declared.Right.{Right}
use Rattle.region_check.specs.declared.Right.TheVariants.{Read, Write, Execute}
use Rattle.region_check.specs.Spans.{spans}
use Rattle.thumb_exec.specs.declared.cpu.Cpu.{Cpu}
use Rattle.words_core.specs.Regs.{reg_at, program_counter}
use Rattle.thumb_exec.specs.Effect.{Halts, Next, Move, Puts, Takes, Refusals, Contents}
use Rattle.thumb_exec.specs.Fetch.{step_effect}
use Rattle.thumb_step.specs.Windows.{View, given, refused_by, held_by, write, AreInside, GoesOn}
use Rattle.task_table.specs.model.State.{Setup}
use Rattle.task_table.specs.model.Reading.{setup_at}
use Rattle.board_model.specs.Turn.{is_device, or_zero}

-- a region of devices that may be read: an I/O region
abbrev pub is_port : Region → Bool
is_port r = r.rights.device && r.rights.read

-- the I/O regions of a task
abbrev pub io_regions_of : Setup → ℕ → List Region
io_regions_of g c = filter is_port (setup_at g c).regions

-- a window, the devices, and I/O regions for them
pub record Sight : Type 0 where
  pub view : View
  pub devices : List DeviceData
  pub io_regions : List Region

-- what a task sees of a window and of these devices
abbrev pub sight_by : Setup → ℕ → View → List DeviceData → Sight
sight_by g c v ds = record { view = v; devices = ds; io_regions = io_regions_of g c }

-- ## What it may do with which bytes

abbrev pub is_read : Right → Bool
is_read Read = true
is_read Write = false
is_read Execute = false

-- whether one of the I/O regions has all of n bytes
abbrev pub in_io_region : List Region → ℕ → ℕ → Bool
in_io_region io_regions a n = list_any (λ r. spans r a n) io_regions

-- at device addresses the bytes of an I/O region may be read, and nothing else is allowed; elsewhere the
-- window decides
abbrev pub refused_at : Sight → Refusals
refused_at o a n right = if is_device a then given (is_read right && in_io_region o.io_regions a n) a else refused_by o.view a n right

abbrev pub held_at : Sight → Contents
held_at o a n = if is_device a then or_zero (device_number o.devices a n) else held_by o.view a n

-- what a load of n bytes answers
abbrev pub IsRead : Sight → ℕ → ℕ → Result ℕ ℕ → Type 0
IsRead o a n answer = MatchResult answer (λ value. (refused_at o a n Read ≡ None) × (value ≡ held_at o a n)) (λ at. refused_at o a n Read ≡ Some at)

-- a halfword that is fetched
pub record IsFetchedAt (o : Sight) (a half : ℕ) : Type 0 where
  pub may : refused_at o a 2 Execute ≡ None
  pub is : half ≡ held_at o a 2

-- a store goes to the window; a load from a device takes what it gave
abbrev pub moved_at : Sight → Move → Sight
moved_at o (Puts x) = record o { view = write o.view x }
moved_at o (Takes a n) = if is_device a then record o { devices = devices_loaded o.devices a } else o

-- ## Instructions

-- the instruction at PC goes on within the window
pub record GoesOnWithin (o : Sight) (c : Cpu) (o' : Sight) (c' : Cpu) : Type 0 where
  pub window : GoesOn o.view c o'.view c'
  pub rest : o' ≡ record o { view = o'.view }

-- it goes on over the window and the devices, and these are its moves
pub record GoesOnBeside (o : Sight) (c : Cpu) (o' : Sight) (c' : Cpu) : Type 0 where
  pub moves : List Move
  pub effect : step_effect (refused_at o) (held_at o) c ≡ Next c' moves
  pub inside : AreInside o.view moves
  pub after : o' ≡ fold moved_at o moves

-- n instructions one after another go on, each within the window or over it and the devices
abbrev pub Polls : Sight → Cpu → ℕ → Sight → Cpu → Type 0
Polls o c zero o' c' = (o' ≡ o) × (c' ≡ c)
Polls o c (suc n) o' c' = (p : Sight) × (d : Cpu) × Polls o c n p d × (GoesOnWithin p d o' c' ⊎ GoesOnBeside p d o' c')

-- if PC is even, the next instruction is a system call, faults or reaches beyond what is seen
abbrev pub IsAtLimit : Sight → Cpu → Type 0
IsAtLimit o c = reg_at c.regs program_counter % 2 ≡ 0 → Halts (step_effect (refused_at o) (held_at o) c)

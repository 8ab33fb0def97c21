-- The kernel as the bus of its current task, and the processor that holds that task's context.
use Rattle.std.specs.Prelude.{ℕ, ◌≡◌, ◌+◌, ◌<◌, ◌≤◌, ◌^◌, Bool, true, false, List, Option, if◌then◌else◌}
use Rattle.kernel_abi.specs.Devices.{DeviceData, device_number}
use Rattle.mem_banks.specs.Memory.{number_at}
use Rattle.region_check.specs.declared.Right.{Right}
use Rattle.thumb_exec.specs.declared.cpu.Cpu.{Cpu}
use Rattle.task_table.specs.declared.kernel.Kernel.{Kernel}
use Rattle.task_table.specs.model.State.{Setup, State, Turn}
use Rattle.task_table.specs.model.Reading.{is_ready, chosen}
use Rattle.task_table.specs.model.Effects.{with_processor, device_stored}
use Rattle.task_table.specs.model.Start.{start, begun}
use Rattle.task_table.specs.model.Sane.{Sane}
use Rattle.task_table.specs.model.Syscalls.{Meaning}
use Rattle.task_table.specs.kept.Holds.{Holds, Stands, setup_of, current_of, task_count, note_count, memory_of}
use Rattle.task_table.specs.kept.Limits.{syscall_notes, turn_notes}
use Rattle.board_core.specs.declared.machine.Machine.{Machine}
use Rattle.board_core.specs.declared.space.AddressSpace.{AddressSpace}
use Rattle.board_model.specs.Turn.{put, took, is_device, or_zero, refusals, with_current}
use Rattle.board_core.specs.Data.{Shows, data_of}

-- the kernel and the devices hold exactly what the turn has come to
pub record SpaceHolds {X : Type 0} {H : X → Type 0} (shown : Shows X H) (g : Setup) (r : AddressSpace X H) (t : Turn) : Type 0 where
  pub kernel : Holds g r.kernel t
  pub devices : data_of shown r.devices ≡ t.state.devices

-- the value of the n bytes from an address on, in the memory of the kernel or of a device
abbrev pub shown_in : Kernel → List DeviceData → ℕ → ℕ → ℕ
shown_in k ds a n = if is_device a then or_zero (device_number ds a n) else number_at (memory_of k) a n

abbrev pub shown_by : {X : Type 0} {H : X → Type 0} → Shows X H → AddressSpace X H → ℕ → ℕ → ℕ
shown_by shown r a n = shown_in r.kernel (data_of shown r.devices) a n

-- What a store leaves: the turn that was held, with the store. This needs room for the note of a byte that a
-- device gives out. Nothing else changes.
pub record IsStored {X : Type 0} {H : X → Type 0} (shown : Shows X H) (r : AddressSpace X H) (a n v : ℕ) (r' : AddressSpace X H) : Type 0 where
  pub holds : (g : Setup) (t : Turn) → note_count r.kernel < turn_notes → SpaceHolds shown g r t → SpaceHolds shown g r' (put t record { addr = a; bytes = n; value = v })
  pub setup : setup_of r'.kernel ≡ setup_of r.kernel
  pub current : current_of r'.kernel ≡ current_of r.kernel
  pub tasks : task_count r'.kernel ≡ task_count r.kernel
  pub notes : note_count r'.kernel ≤ note_count r.kernel + 1

-- the same for a store to the device behind an address
pub record IsGiven {X : Type 0} {H : X → Type 0} (shown : Shows X H) (r : AddressSpace X H) (a v : ℕ) (r' : AddressSpace X H) : Type 0 where
  pub holds : (g : Setup) (t : Turn) → note_count r.kernel < turn_notes → SpaceHolds shown g r t → SpaceHolds shown g r' (device_stored a v t)
  pub setup : setup_of r'.kernel ≡ setup_of r.kernel
  pub current : current_of r'.kernel ≡ current_of r.kernel
  pub tasks : task_count r'.kernel ≡ task_count r.kernel
  pub notes : note_count r'.kernel ≤ note_count r.kernel + 1

-- what is left after an instruction that went on has loaded from an address: the turn that was held, after a
-- device there has given up what it gave
pub record IsTaken {X : Type 0} {H : X → Type 0} (shown : Shows X H) (r : AddressSpace X H) (a : ℕ) (r' : AddressSpace X H) : Type 0 where
  pub holds : (g : Setup) (t : Turn) → SpaceHolds shown g r t → SpaceHolds shown g r' (took t a)
  pub kernel : r'.kernel ≡ r.kernel

-- the current task gets the registers and flags of the processor
abbrev pub with_cpu : Cpu → Turn → Turn
with_cpu cpu t = with_processor t.state.current cpu.regs.words cpu.flags t

-- The context of the current task is loaded. The kernel's copy of that task's registers and flags is then out
-- of date.
pub record IsLoaded {X : Type 0} {H : X → Type 0} (shown : Shows X H) (g : Setup) (r : AddressSpace X H) (cpu : Cpu) (t : Turn) : Type 0 where
  pub saved : Turn
  pub holds : SpaceHolds shown g r saved
  pub ready : is_ready saved.state saved.state.current ≡ true
  pub is : t ≡ with_cpu cpu saved

abbrev pub HoldsBy : {X : Type 0} {H : X → Type 0} → Shows X H → Bool → Setup → AddressSpace X H → Cpu → Turn → Type 0
HoldsBy shown true g r cpu t = IsLoaded shown g r cpu t
HoldsBy shown false g r cpu t = SpaceHolds shown g r t

-- the machine holds exactly what the turn has come to
abbrev pub MachineHolds : {X : Type 0} {H : X → Type 0} → Shows X H → Setup → Machine X H → Turn → Type 0
MachineHolds shown g m t = HoldsBy shown m.loaded g m.space m.glider.runner.processor t

-- and the state is sane
pub record MachineStands {X : Type 0} {H : X → Type 0} (shown : Shows X H) (g : Setup) (m : Machine X H) (t : Turn) : Type 0 where
  pub holds : MachineHolds shown g m t
  pub sane : Sane g t.state

-- the machine stands for the turn, the current task is ready, and its context is loaded
pub record IsReady {X : Type 0} {H : X → Type 0} (shown : Shows X H) (g : Setup) (m : Machine X H) (t : Turn) : Type 0 where
  pub loaded : m.loaded ≡ true
  pub holds : IsLoaded shown g m.space m.glider.runner.processor t
  pub sane : Sane g t.state

-- the machine stands for the turn, and this is the choice
pub record IsNext {X : Type 0} {H : X → Type 0} (shown : Shows X H) (g : Setup) (m : Machine X H) (t : Turn) (next : Option ℕ) : Type 0 where
  pub stands : MachineStands shown g m t
  pub is : next ≡ chosen g t.state

-- The processor has the context of a task that is ready, but the task need not be the current one yet. The
-- kernel's copy of the task's registers and flags may be out of date.
pub record HasContext {X : Type 0} {H : X → Type 0} (shown : Shows X H) (g : Setup) (m : Machine X H) (c : ℕ) (t : Turn) : Type 0 where
  pub saved : Turn
  pub holds : SpaceHolds shown g m.space saved
  pub ready : is_ready saved.state c ≡ true
  pub is : with_current c t ≡ with_cpu m.glider.runner.processor (with_current c saved)

-- the first of n bytes that the current task may not access with this right
abbrev pub refused : Kernel → ℕ → ℕ → Right → Option ℕ
refused k a n right = refusals (setup_of k) (current_of k) a n right

-- the next call still gets a number of 32 bits
abbrev pub HasNumber : State → Type 0
HasNumber s = s.next_call + 1 < 2 ^ 32

-- the kernel stands for the start of a run
pub record IsStarted (g : Setup) (k : Kernel) : Type 0 where
  pub stands : Stands g k (begun (start g))

-- ## what the current task does when its context is loaded

-- it may act: the next call still gets a number, and the turn has room for n more notes
pub record MayAct {X : Type 0} {H : X → Type 0} (shown : Shows X H) (m : Machine X H) (n : ℕ) : Type 0 where
  pub ready : (g : Setup) × (t : Turn) × IsReady shown g m t × HasNumber t.state
  pub room : note_count m.space.kernel + n ≤ turn_notes

-- it has acted, and made at most n notes
pub record HasActed {X : Type 0} {H : X → Type 0} (shown : Shows X H) (does : Meaning) (n : ℕ) (old new : Machine X H) : Type 0 where
  pub holds : (g : Setup) (t : Turn) → IsReady shown g old t → MachineHolds shown g new (does g t.state.current t)
  pub count : note_count new.space.kernel ≤ note_count old.space.kernel + n

-- the chosen task, if there is one, may have its turn
pub record MayTurn {X : Type 0} {H : X → Type 0} (shown : Shows X H) (m : Machine X H) (choice : Option ℕ) : Type 0 where
  pub next : (g : Setup) × (t : Turn) × IsNext shown g m t choice × HasNumber t.state
  pub room : note_count m.space.kernel + (syscall_notes + 4) ≤ turn_notes

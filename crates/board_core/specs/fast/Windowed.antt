-- Turns of a task whose instructions stay within a window of its flash and its data.
use Rattle.words_core.specs.Regs.{program_counter}
use Rattle.std.specs.Prelude.{ℕ, zero, suc, ◌≡◌, ◌⊎◌, Bool, false, ◌+◌, ◌<◌, ◌≤◌, true, List, length, [], Some, Ok, Contains}
use Rattle.region_check.specs.declared.Region.{Region}
use Rattle.region_check.specs.declared.Right.TheVariants.{Read, Write, Execute}
use Rattle.mem_banks.specs.Memory.{Memory, byte_at, bytes_at, with_bytes}
use Rattle.mem_banks.specs.Windows.{IsInFlash, IsInRam, AreApart}
use Rattle.run_script.specs.Scripts.{events_of}
use Rattle.thumb_exec.specs.declared.cpu.Cpu.{Cpu}
use Rattle.std.specs.List.{list_any}
use Rattle.thumb_exec.specs.Effect.{Halts}
use Rattle.thumb_exec.specs.Fetch.{fetched, step_effect}
use Rattle.thumb_insn.specs.declared.Insn.TheVariants.{Svc}
use Rattle.thumb_step.specs.Windows.{View, has_code, is_at_syscall}
use Rattle.board_core.specs.declared.fast_path.regions.WindowRegions.{WindowRegions}
use Rattle.board_core.specs.fast.Reached.{is_flash_at, MakeWindow}
use Rattle.board_core.specs.fast.Sights.{Sight, is_port, sight_by, refused_at, held_at}
use Rattle.board_core.specs.fast.Breakpoints.{IsStretch}
use Rattle.board_core.specs.fast.Stops.{Stops}
use Rattle.task_table.specs.model.State.{Setup, State}
use Rattle.task_table.specs.model.Reading.{task_at, setup_at, register, chosen, is_ready}
use Rattle.task_table.specs.model.Sane.{Sane, IsCounted}
use Rattle.task_table.specs.model.Effects.{with_task}
use Rattle.board_model.specs.declared.outcomes.Level.TheVariants.{Calls}
use Rattle.board_model.specs.declared.outcomes.Turned.{Turned}
use Rattle.board_model.specs.declared.outcomes.Turned.TheVariants.{Idle, Ran}
use Rattle.board_model.specs.Script.{Scenario}
use Rattle.board_model.specs.Turn.{may, refusals, held, cpu_of, turned}
use Rattle.board_model.specs.Run.{is_down, turn_after, state_after}

-- A window of a task. Its flash lies in the flash, its data and its two areas lie in the RAM without overlap,
-- all with the bytes that memory has, and the task has the right to each byte that the window allows.
pub record IsWindow (g : Setup) (c : ℕ) (m : Memory) (v : View) : Type 0 where
  pub executed : (a : ℕ) → v.flash_base ≤ a → a < v.flash_base + length v.flash → may g c Execute a ≡ true
  pub legible : v.readable ≡ true → (a : ℕ) → v.flash_base ≤ a → a < v.flash_base + length v.flash → may g c Read a ≡ true
  pub read : (a : ℕ) → v.ram_base ≤ a → a < v.ram_base + length v.ram → may g c Read a ≡ true
  pub written : (a : ℕ) → v.ram_base ≤ a → a < v.ram_base + length v.ram → may g c Write a ≡ true
  pub area_read : (a : ℕ) → v.area_base ≤ a → a < v.area_base + length v.area → may g c Read a ≡ true
  pub area_written : v.area_writable ≡ true → (a : ℕ) → v.area_base ≤ a → a < v.area_base + length v.area → may g c Write a ≡ true
  pub second_read : (a : ℕ) → v.second_base ≤ a → a < v.second_base + length v.second → may g c Read a ≡ true
  pub second_written : v.second_writable ≡ true → (a : ℕ) → v.second_base ≤ a → a < v.second_base + length v.second → may g c Write a ≡ true
  pub in_flash : IsInFlash m (v.flash_base, length v.flash)
  pub in_ram : IsInRam m (v.ram_base, length v.ram)
  pub in_area : IsInRam m (v.area_base, length v.area)
  pub in_second : IsInRam m (v.second_base, length v.second)
  pub apart : AreApart (v.ram_base, length v.ram) (v.area_base, length v.area)
  pub second_apart : AreApart (v.ram_base, length v.ram) (v.second_base, length v.second) × AreApart (v.area_base, length v.area) (v.second_base, length v.second)
  pub flash : bytes_at m v.flash_base (length v.flash) ≡ v.flash
  pub ram : bytes_at m v.ram_base (length v.ram) ≡ v.ram
  pub area : bytes_at m v.area_base (length v.area) ≡ v.area
  pub second : bytes_at m v.second_base (length v.second) ≡ v.second

-- the window has all of a region: the same base, and as many bytes
abbrev pub IsAllOf : ℕ → List ℕ → Region → Type 0
IsAllOf base bytes r = (base ≡ r.base) × (length bytes ≡ r.size)

-- A window of a task that has whole regions: the one of the flash that has PC, the one of the RAM that has
-- SP, and the first two other ones of the RAM that may be read. Of these three it leaves out those that have
-- the watched byte. It fetches from all around PC up to the breakpoints.
pub record IsWholeWindow (stops : Stops) (g : Setup) (c : ℕ) (m : Memory) (pc sp : ℕ) (v : View) : Type 0 where
  pub is : IsWindow g c m v
  pub regions : WindowRegions
  pub make : MakeWindow stops.watched (setup_at g c).regions pc sp regions
  pub flash : IsAllOf v.flash_base v.flash regions.flash
  pub stretch : IsStretch stops.breakpoints regions.flash.base regions.flash.size pc v.code_base v.code_size
  pub readable : v.readable ≡ regions.flash.rights.read
  pub ram : IsAllOf v.ram_base v.ram regions.ram
  pub area : IsAllOf v.area_base v.area regions.area
  pub writable : v.area_writable ≡ regions.area.rights.write
  pub second : IsAllOf v.second_base v.second regions.second
  pub second_writable : v.second_writable ≡ regions.second.rights.write

-- The next instruction of a task is a system call, faults, is at a breakpoint, or reaches beyond a window and
-- the devices that the task may read. PC and SP had these values when the window was opened. `calls` says
-- whether the instruction is a system call.
pub record IsAtEnd (stops : Stops) (g : Setup) (c pc sp : ℕ) (s : State) (calls : Bool) : Type 0 where
  pub window : View
  pub whole : IsWholeWindow stops g c s.memory pc sp window
  pub halts : Halts (step_effect (refused_at (sight_by g c window s.devices)) (held_at (sight_by g c window s.devices)) (cpu_of (task_at s c)))
  pub told : calls ≡ is_at_syscall window (cpu_of (task_at s c))

-- the same, or the task fetches from no region of the flash
abbrev pub MustStop : Stops → Setup → ℕ → ℕ → ℕ → State → Bool → Type 0
MustStop stops g c pc sp s calls = IsAtEnd stops g c pc sp s calls ⊎ ((list_any (is_flash_at (register s c program_counter)) (setup_at g c).regions ≡ false) × (calls ≡ false))

-- the instruction that a task fetches is a system call
pub record IsCalling (g : Setup) (c : ℕ) (s : State) : Type 0 where
  pub value : ℕ
  pub code : ℕ
  pub is : fetched (refusals g c) (held s) (register s c program_counter) ≡ Ok record { insn = Svc value; code = code }

-- what a task sees is a window of its memory, the devices as they are, and I/O regions of the task
pub record IsSight (g : Setup) (c : ℕ) (s : State) (o : Sight) : Type 0 where
  pub window : IsWindow g c s.memory o.view
  pub devices : o.devices ≡ s.devices
  pub io_regions : (r : Region) → Contains o.io_regions r → Contains (setup_at g c).regions r × (is_port r ≡ true)

-- the chosen task sees this, and nothing happens in the next n turns
abbrev pub IsUndisturbed : Scenario → State → ℕ → Sight → ℕ → Type 0
IsUndisturbed x s c o n =
    (chosen x.setup s ≡ Some c) × IsSight x.setup c s o × ((k : ℕ) → k < n → events_of x.script (s.turn + k) ≡ [])

-- the state n turns later, in which only a task's processor and the memory have changed
abbrev pub later : State → ℕ → Cpu → Memory → ℕ → State
later s c cpu m n =
    record (with_task c record (task_at s c) { registers = cpu.regs.words; flags = cpu.flags } s) { memory = m; turn = s.turn + n }

-- a memory with the bytes of another window in its RAM and areas
abbrev pub with_window : Memory → View → View → Memory
with_window m v w = with_bytes (with_bytes (with_bytes m v.ram_base w.ram) v.area_base w.area) v.second_base w.second

-- the task that ran last, after n turns of a task
abbrev pub runner : ℕ → ℕ → ℕ → ℕ
runner zero c before = before
runner (suc n) c before = c

-- the turn ran the task, and its PC was where the window fetches
abbrev pub IsFetchedIn : View → ℕ → Turned → Type 0
IsFetchedIn v c Idle = ⊥
IsFetchedIn v c (Ran task at) = (task ≡ c) × (has_code v at 2 ≡ true)

-- an address is outside these bytes
abbrev pub IsBeyond : ℕ → List ℕ → ℕ → Type 0
IsBeyond base bytes at = base ≤ at → at < base + length bytes → ⊥

-- an address is outside the RAM and the areas of a window
abbrev pub IsBeside : View → ℕ → Type 0
IsBeside v at = IsBeyond v.ram_base v.ram at × IsBeyond v.area_base v.area at × IsBeyond v.second_base v.second at

-- the next n turns are this task's instructions over what it sees, and none of them notes anything
pub record AreTurns (x : Scenario) (s : State) (c : ℕ) (o : Sight) (n : ℕ) (o' : Sight) (cpu : Cpu) : Type 0 where
  pub state : state_after Calls x n s ≡ later record s { current = runner n c s.current; devices = o'.devices } c cpu (with_window s.memory o.view o'.view) n
  pub beside : (k at : ℕ) → k ≤ n → IsBeside o.view at → byte_at (state_after Calls x k s).memory at ≡ byte_at s.memory at
  pub silent : (k : ℕ) → k < n → (turn_after Calls x k s).notes ≡ []
  pub ran : (k : ℕ) → k < n → IsFetchedIn o.view c (turned x (state_after Calls x k s))
  pub chosen : (k : ℕ) → k ≤ n → chosen x.setup (state_after Calls x k s) ≡ Some c
  pub down : (k : ℕ) → k ≤ n → is_down (state_after Calls x k s) ≡ is_down s
  pub ready : (i : ℕ) → is_ready (state_after Calls x n s) i ≡ is_ready s i
  pub sane : Sane x.setup (state_after Calls x n s)
  pub counted : IsCounted s → IsCounted (state_after Calls x n s)

-- Instructions one after another within a window of a task's memory.
use Rattle.words_core.specs.Regs.{stack_pointer, program_counter}
use Rattle.std.specs.Prelude.{ℕ, ◌≡◌, ◌⊎◌, ◌≤◌, ◌<◌, Bool, List, length, true, false}
use Rattle.std.specs.List.{list_any}
use Rattle.kernel_abi.specs.Devices.{DeviceData}
use Rattle.region_check.specs.declared.Region.{Region}
use Rattle.thumb_exec.specs.declared.cpu.Cpu.{Cpu}
use Rattle.thumb_exec.specs.Effect.{Halts}
use Rattle.thumb_exec.specs.Fetch.{step_effect}
use Rattle.thumb_step.specs.declared.window.Window.{Window}
use Rattle.thumb_step.specs.Windows.{View, Glides, IsApart, IsAtSyscall, is_at_syscall, refused_by, held_by}
use Rattle.task_table.specs.model.State.{Setup, Turn}
use Rattle.task_table.specs.model.Reading.{task_at, setup_at, register, is_ready}
use Rattle.board_model.specs.Turn.{cpu_of}
use Rattle.board_core.specs.fast.Reached.{is_flash_at}
use Rattle.board_core.specs.fast.Sights.{sight_by, io_regions_of, Polls, IsAtLimit}
use Rattle.board_core.specs.fast.Stops.{Stops}
use Rattle.board_core.specs.fast.Windowed.{IsWholeWindow, later, with_window}
use Rattle.board_core.specs.declared.fast_path.glider.Glider.{Glider}
use Rattle.board_core.specs.declared.machine.Machine.{Machine}
use Rattle.board_core.specs.Machine.{MachineHolds, MachineStands}
use Rattle.board_core.specs.Data.{Shows}

-- what a window shows while it has these bytes
abbrev pub lent_view : Window → List ℕ → List ℕ → List ℕ → List ℕ → View
lent_view w flash ram area second =
    record {
      flash_base = w.flash_base;
      flash = flash;
      readable = w.readable;
      code_base = w.code_base;
      code_size = w.code_size;
      ram_base = w.ram_base;
      ram = ram;
      area_base = w.area_base;
      area = area;
      area_writable = w.area_writable;
      second_base = w.second_base;
      second = second;
      second_writable = w.second_writable;
    }

-- the next instruction is a system call, faults or reaches beyond the window
abbrev pub IsLast : View → Cpu → Type 0
IsLast v c = Halts (step_effect (refused_by v) (held_by v) c)

-- n of at most `most` instructions were made; these are the window before and after them. `calls` is true
-- only if they stopped at a system call, and it is true whenever they did.
pub record TellsCall (most n : ℕ) (before after : View) (c : Cpu) (calls : Bool) : Type 0 where
  pub short : calls ≡ true → n < most
  pub calling : calls ≡ true → IsAtSyscall after c
  pub told : IsApart before → n < most → calls ≡ is_at_syscall after c

-- the glider made instructions one after another within its window
pub record HasWorked (a : Glider) (flash ram area second : List ℕ) (b : Glider) (after area_after second_after : List ℕ) : Type 0 where
  pub glides : Glides (lent_view a.runner.window flash ram area second) a.runner.processor b.made (lent_view a.runner.window flash after area_after second_after) b.runner.processor
  pub within : b.made ≤ a.most
  -- it stopped earlier only where it had to
  pub far : IsApart (lent_view a.runner.window flash ram area second) → b.made < a.most → IsLast (lent_view a.runner.window flash after area_after second_after) b.runner.processor
  pub tells : TellsCall a.most b.made (lent_view a.runner.window flash ram area second) (lent_view a.runner.window flash after area_after second_after) b.runner.processor b.at_syscall

-- A task made n instructions one after another, within a window or over it and the devices that the task may
-- read. The window fetches from no breakpoint and lacks the watched byte. As many of them went on as can, up
-- to `most`, and `calls` says whether the next one is known to be a system call. If there were any, the task
-- is the current one.
pub record IsGlided {X : Type 0} {H : X → Type 0} (shown : Shows X H) (stops : Stops) (g : Setup) (m : Machine X H) (c : ℕ) (t : Turn) (most n : ℕ) (calls : Bool) : Type 0 where
  pub window : View
  pub after : View
  pub devices : List DeviceData
  pub whole : IsWholeWindow stops g c t.state.memory (register t.state c program_counter) (register t.state c stack_pointer) window
  pub polls : Polls (sight_by g c window t.state.devices) (cpu_of (task_at t.state c)) n (sight_by g c after devices) m.glider.runner.processor
  pub far : n < most → IsAtLimit (sight_by g c after devices) m.glider.runner.processor
  pub apart : IsApart window
  pub tells : TellsCall most n window after m.glider.runner.processor calls
  pub stays : n ≡ 0 → MachineHolds shown g m t
  pub goes : 0 < n → MachineHolds shown g m record t { state = later record t.state { current = c; devices = devices } c m.glider.runner.processor (with_window t.state.memory window after) n }

-- there were none, because the task fetches from no region of the flash
pub record HasNoWindow {X : Type 0} {H : X → Type 0} (shown : Shows X H) (g : Setup) (m : Machine X H) (c : ℕ) (t : Turn) (n : ℕ) (calls : Bool) : Type 0 where
  pub none : n ≡ 0
  pub no_call : calls ≡ false
  pub beyond : list_any (is_flash_at (register t.state c program_counter)) (setup_at g c).regions ≡ false
  pub holds : MachineHolds shown g m t

-- instructions were made so, or the task fetches from no region of the flash
abbrev pub HasGlided : {X : Type 0} {H : X → Type 0} → Shows X H → Stops → Setup → Machine X H → ℕ → Turn → ℕ → ℕ → Bool → Type 0
HasGlided shown stops g m c t most n calls = IsGlided shown stops g m c t most n calls ⊎ HasNoWindow shown g m c t n calls

-- what a machine reaches from a turn in which this task is ready, and may read devices through these regions
abbrev pub GlidesFrom : {X : Type 0} {H : X → Type 0} → Shows X H → Stops → List Region → ℕ → ℕ → Machine X H → Machine X H → ℕ → Bool → Type 0
GlidesFrom shown stops io_regions task most old new made calls =
    (g : Setup) (t : Turn) → MachineStands shown g old t → task < length t.state.tasks → is_ready t.state task ≡ true →
    io_regions_of g task ≡ io_regions → HasGlided shown stops g new task t most made calls

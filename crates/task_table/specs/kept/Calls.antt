-- What a system call asks for, and what it does.
use Rattle.std.specs.Prelude.{ℕ, ◌≡◌, ◌<◌, ◌≤◌, ◌+◌, List, true}
use Rattle.kernel_abi.specs.Devices.{DeviceData}
use Rattle.task_table.specs.kept.Frames.{AddsAtMost}
use Rattle.task_table.specs.kept.Holds.{Stands, task_count, note_count}
use Rattle.task_table.specs.kept.Limits.{syscall_notes, turn_notes}
use Rattle.task_table.specs.model.Reading.{is_ready}
use Rattle.task_table.specs.model.State.{Setup, Turn}
use Rattle.task_table.specs.model.Syscalls.{Meaning}
use Rattle.task_table.specs.declared.kernel.Kernel.{Kernel}

-- a task may make a system call: it exists and is ready, and the turn has room for the notes of the call
pub record MayCall (k : Kernel) (caller : ℕ) : Type 0 where
  pub there : caller < task_count k
  pub ready : (g : Setup) × (t : Turn) × Stands g k t × (is_ready t.state caller ≡ true)
  pub room : note_count k + syscall_notes ≤ turn_notes

-- a system call of a ready task does what its rows say, and makes no more notes than a call may
pub record Performs (row : Meaning) (old : Kernel) (caller : ℕ) (new : Kernel) : Type 0 where
  pub stands : (g : Setup) (t : Turn) → Stands g old t → is_ready t.state caller ≡ true → Stands g new (row g caller t)
  pub frame : AddsAtMost old syscall_notes new

-- the same, in a state with these devices
pub record PerformsOver (devices : List DeviceData) (row : Meaning) (old : Kernel) (caller : ℕ) (new : Kernel) : Type 0 where
  pub stands : (g : Setup) (t : Turn) → Stands g old t → t.state.devices ≡ devices → is_ready t.state caller ≡ true → Stands g new (row g caller t)
  pub frame : AddsAtMost old syscall_notes new

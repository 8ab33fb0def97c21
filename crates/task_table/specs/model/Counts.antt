-- What a change within a turn leaves alone, and what registers may become.
use Rattle.words_core.specs.Regs.{stack_pointer, program_counter}
use Rattle.std.specs.Prelude.{ℕ, ◌≡◌, ◌≢◌, ◌+◌, ◌%◌, ◌≤◌, List, [], ◌++◌, length, slice_index}
use Rattle.kernel_abi.specs.declared.Note.{Note}
use Rattle.task_table.specs.model.State.{State, Turn}
use Rattle.task_table.specs.model.Reading.{task_at, is_ready}

-- sixteen registers, bit 0 of PC and the two low bits of SP are 0
pub record AreWhole (registers : List ℕ) : Type 0 where
  pub sixteen : length registers ≡ 16
  pub even : slice_index registers program_counter % 2 ≡ 0
  pub aligned : slice_index registers stack_pointer % 4 ≡ 0

-- the number of tasks, the turn and the time are the same, and no call has begun
pub record IsSameTime (s u : State) : Type 0 where
  pub count : length u.tasks ≡ length s.tasks
  pub turn : u.turn ≡ s.turn
  pub now : u.now ≡ s.now
  pub next_call : u.next_call ≡ s.next_call

-- the number of tasks, the turn and the time are the same, and at most one call has begun
pub record AreCounts (s u : State) : Type 0 where
  pub count : length u.tasks ≡ length s.tasks
  pub turn : u.turn ≡ s.turn
  pub now : u.now ≡ s.now
  pub from : s.next_call ≤ u.next_call
  pub upto : u.next_call ≤ s.next_call + 1

-- something was noted
abbrev pub IsNoted : Turn → Type 0
IsNoted t = t.notes ≢ []

-- all notes stay, and at most n are added
pub record AreNoted (n : ℕ) (u v : Turn) : Type 0 where
  pub new : List Note
  pub notes : v.notes ≡ u.notes ++ new
  pub few : length new ≤ n

-- the number of tasks is the same, each is as ready and as well as it was, and the same one is current
pub record IsAsReady (s u : State) : Type 0 where
  pub count : length u.tasks ≡ length s.tasks
  pub health : (i : ℕ) → (task_at u i).health ≡ (task_at s i).health
  pub ready : (i : ℕ) → is_ready u i ≡ is_ready s i
  pub current : u.current ≡ s.current

-- The turns of one birth of a task, counted by the task's own turns.
use Rattle.std.specs.Prelude.{◌≡◌, ◌⊎◌, ℕ, zero, suc, ◌+◌, ◌<◌, Bool, false, ◌==◌, if◌then◌else◌, List, length, Contains, Option, None, Some}
use Rattle.kernel_abi.specs.declared.Note.{Note}
use Rattle.kernel_abi.specs.declared.Note.TheVariants as note
use Rattle.task_table.specs.model.State.{State, Turn}
use Rattle.task_table.specs.model.Reading.{task_at, chosen, IsIdle}
use Rattle.task_table.specs.model.Effects.{restarted}
use Rattle.task_table.specs.model.Rows.{goes_on_with}
use Rattle.board_model.specs.declared.outcomes.Level.{Level}
use Rattle.board_model.specs.Script.{Scenario}
use Rattle.board_model.specs.Turn.{after_events, turn, stepped, with_current}
use Rattle.board_model.specs.Run.{turn_after, state_after}
use Rattle.task_table.specs.model.Sane.{Sane}
use Rattle.board_model.specs.Loners.{IsLoner, HaveSameRegions, AreMadeAlike, HaveSameBytes, HaveSameOwn, IsUntouched, IsStruck, IsAtBirth}

-- the turn from this state is the task's own
abbrev pub IsOwnTurn : Scenario → ℕ → State → Type 0
IsOwnTurn x i s = chosen x.setup (after_events x s).state ≡ Some i

-- By these notes the task is left to itself. The supervisor neither restarted it nor made it fault, and it
-- made no system call except PANIC.
pub record IsToItself (i : ℕ) (notes : List Note) : Type 0 where
  pub not_struck : IsStruck i notes → ⊥
  pub no_call : (number : ℕ) (arguments : List ℕ) → Contains notes (note.Syscall i number arguments) → number ≡ 8

-- ## one turn

-- If a task waits for nothing and the turn is not its own, the turn leaves it as it was, unless the
-- supervisor strikes it. The bytes of a loner stay in any case.
abbrev pub LeavesLoners : Level → Scenario → State → Type 0
LeavesLoners level x s = (i : ℕ) → IsIdle s i → (IsOwnTurn x i s → ⊥) → (IsStruck i (turn level x s).notes ⊎ IsUntouched s i (turn level x s).state) × (IsLoner x.setup i → HaveSameBytes x.setup i (turn level x s).state s)

-- Loners in two states, perhaps of two images, that wait for nothing. They have the same regions, registers,
-- flags and bytes.
pub record AreAlike (x y : Scenario) (i j : ℕ) (s u : State) : Type 0 where
  pub loners : IsLoner x.setup i × IsLoner y.setup j
  pub regions : HaveSameRegions x.setup y.setup i j
  pub registers : (task_at s i).registers ≡ (task_at u j).registers
  pub flags : (task_at s i).flags ≡ (task_at u j).flags
  pub bytes : HaveSameBytes x.setup i s u
  pub idle : IsIdle s i × IsIdle u j

-- What a loner's own turn makes of it depends only on what it has for itself. If it made no system call
-- except PANIC, a loner that is alike in another state has the same after its own turn there.
abbrev pub LonersDecide : Level → Scenario → State → Type 0
LonersDecide level x s = (other : Level) (y : Scenario) (u : State) (i j : ℕ) → Sane y.setup u → AreAlike x y i j s u → IsOwnTurn x i s → IsOwnTurn y j u → IsToItself i (turn level x s).notes → HaveSameOwn x.setup i j (turn level x s).state (turn other y u).state

-- The turn from s is task c's own, and in it c restarts task i and goes on. It does so from some state of
-- that turn, with or without i running, and with some values for c.
pub record IsRestart (level : Level) (x : Scenario) (s : State) (c i : ℕ) : Type 0 where
  pub own : IsOwnTurn x c s
  pub before : Turn
  pub run : Bool
  pub values : List ℕ
  pub does : stepped level x.setup c (with_current c (after_events x s)) ≡ goes_on_with c values (restarted x.setup i run before)
  pub there : i < length before.state.tasks

-- ## many turns

-- From one state to another in turns in which the task is left to itself. This many of them are the task's
-- own.
pub data LivesAlone (level : Level) (x : Scenario) (i : ℕ) (s : State) : ℕ → State → Type 0 where
  Begins : LivesAlone level x i s 0 s
  Waits : (k : ℕ) (z : State) → LivesAlone level x i s k z → (IsOwnTurn x i z → ⊥) → IsToItself i (turn level x z).notes → LivesAlone level x i s k (turn level x z).state
  Runs : (k : ℕ) (z : State) → LivesAlone level x i s k z → IsOwnTurn x i z → IsToItself i (turn level x z).notes → LivesAlone level x i s (suc k) (turn level x z).state

-- States of two runs, perhaps of two images. In each a loner is at birth. The images give both the same
-- entry, stack and regions, and these hold the same bytes.
pub record AreBornAlike (x y : Scenario) (i j : ℕ) (s u : State) : Type 0 where
  pub sane : Sane x.setup s × Sane y.setup u
  pub loners : IsLoner x.setup i × IsLoner y.setup j
  pub made : AreMadeAlike x.setup y.setup i j
  pub born : IsAtBirth x.setup i s × IsAtBirth y.setup j u
  pub bytes : HaveSameBytes x.setup i s u

-- ## the turns of a run

-- the turn from this state is the task's own, as a test
abbrev pub is_task : ℕ → Option ℕ → Bool
is_task i None = false
is_task i (Some c) = c == i

abbrev pub is_own_turn : Scenario → ℕ → State → Bool
is_own_turn x i s = is_task i (chosen x.setup (after_events x s).state)

-- how many of the first n turns from a state are the task's own
unfoldable pub own_count : Level → Scenario → ℕ → State → ℕ → ℕ
own_count level x i s zero = 0
own_count level x i s (suc n) = own_count level x i s n + (if is_own_turn x i (state_after level x n s) then 1 else 0)

-- in each of the first n turns from a state the task is left to itself
abbrev pub GoesByItself : Level → Scenario → ℕ → State → ℕ → Type 0
GoesByItself level x i s n = (m : ℕ) → m < n → IsToItself i (turn_after level x m s).notes

-- Task i is left to itself for n turns from s, and task j for m turns from u. Each has as many own turns
-- among these as the other, and at least one.
pub record LiveAsLong (level other : Level) (x y : Scenario) (i j : ℕ) (s u : State) (n m : ℕ) : Type 0 where
  pub first : GoesByItself level x i s n
  pub second : GoesByItself other y j u m
  pub some : 0 < own_count level x i s n
  pub as_many : own_count other y j u m ≡ own_count level x i s n

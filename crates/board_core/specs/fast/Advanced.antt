-- Several turns one after another, of which only the last may note anything.
use Rattle.words_core.specs.Regs.{stack_pointer, program_counter}
use Rattle.std.specs.Prelude.{ℕ, Bool, ◌≡◌, ◌≢◌, ◌⊎◌, ◌<◌, ◌≤◌, ◌-◌, [], Option, None, Some, true, false}
use Rattle.mem_banks.specs.Memory.{byte_at}
use Rattle.task_table.specs.model.State.{State}
use Rattle.task_table.specs.model.Reading.{register, chosen}
use Rattle.run_script.specs.Scripts.{events_of, lasts}
use Rattle.board_core.specs.declared.board.Board.{Board}
use Rattle.board_model.specs.declared.outcomes.Level.{Level}
use Rattle.board_model.specs.declared.outcomes.Level.TheVariants.{Calls}
use Rattle.board_model.specs.Script.{Scenario}
use Rattle.board_model.specs.Turn.{turn, turned}
use Rattle.board_model.specs.Run.{ending, turn_after, state_after}
use Rattle.board_core.specs.fast.Breakpoints.{is_hit}
use Rattle.board_core.specs.fast.Stops.{Stops}
use Rattle.board_core.specs.fast.Windowed.{MustStop, IsCalling}
use Rattle.board_core.specs.Stands.{Stands, StandsForSome, notes_of, turns_of}
use Rattle.board_core.specs.Data.{Shows}

-- The board stands for the state after n + 1 turns, and its notes are those of the last one. The first n
-- turns noted nothing, and the run did not end after any of them.
pub record IsAdvanced {X : Type 0} {H : X → Type 0} (shown : Shows X H) (level : Level) (x : Scenario) (n : ℕ) (s : State) (b : Board X H) : Type 0 where
  pub nothing : (k : ℕ) → k < n → (turn_after level x k s).notes ≡ []
  pub goes_on : (k : ℕ) → k < n → ending x 1 (turn_after level x k s).state ≡ None
  pub stands : Stands shown x b (turn_after level x n s).state
  pub notes : notes_of b ≡ (turn_after level x n s).notes

-- The board stands for the state after n turns. None of them noted anything, ended the run, was at a
-- breakpoint or changed the watched byte.
pub record HasGlidden {X : Type 0} {H : X → Type 0} (shown : Shows X H) (stops : Stops) (x : Scenario) (s : State) (n : ℕ) (b : Board X H) : Type 0 where
  pub stands : Stands shown x b (state_after Calls x n s)
  pub nothing : (k : ℕ) → k < n → (turn_after Calls x k s).notes ≡ []
  pub goes_on : (k : ℕ) → k < n → ending x 1 (turn_after Calls x k s).state ≡ None
  pub past : (k : ℕ) → k < n → is_hit stops.breakpoints (turned x (state_after Calls x k s)) ≡ false
  pub untouched : (k at : ℕ) → k < n → stops.watched ≡ Some at → byte_at (turn_after Calls x k s).state.memory at ≡ byte_at s.memory at
  pub notes : 0 < n → notes_of b ≡ []

-- the board stands for the state after one turn, and its notes are those of that turn
pub record HasMade {X : Type 0} {H : X → Type 0} (shown : Shows X H) (level : Level) (x : Scenario) (s : State) (b : Board X H) : Type 0 where
  pub stands : Stands shown x b (turn level x s).state
  pub notes : notes_of b ≡ (turn level x s).notes

-- a turn in which something happens from outside, or before which the run ends
abbrev pub IsStopped : Scenario → State → Type 0
IsStopped x s = (events_of x.script s.turn ≢ []) ⊎ (ending x 1 s ≢ None)

-- a task that runs from a state cannot go on past another one on the fast path; `calls` says whether it is
-- known to make a system call there
abbrev pub IsFar : Stops → Scenario → ℕ → State → State → Bool → Type 0
IsFar stops x c s u calls = MustStop stops x.setup c (register s c program_counter) (register s c stack_pointer) u calls

-- the chosen task makes a system call, and nothing happens from outside
pub record IsCall (x : Scenario) (s : State) (c : ℕ) : Type 0 where
  pub chosen : chosen x.setup s ≡ Some c
  pub nothing : events_of x.script s.turn ≡ []
  pub calling : IsCalling x.setup c s

-- The state that a board has reached from another one, and the state before its last turn.
abbrev pub state_now : {X : Type 0} {H : X → Type 0} → Scenario → Board X H → State → Board X H → State
state_now x old s new = state_after Calls x (turns_of new - turns_of old) s

abbrev pub state_before : {X : Type 0} {H : X → Type 0} → Scenario → Board X H → State → Board X H → State
state_before x old s new = state_after Calls x (turns_of new - turns_of old - 1) s

-- the next turn of the chosen task has to be a whole one: something happens in it, or the fast path ends
-- there
abbrev pub NeedsTurn : Stops → Scenario → ℕ → State → State → Type 0
NeedsTurn stops x c s u = (events_of x.script u.turn ≢ []) ⊎ ((calls : Bool) × IsFar stops x c s u calls)

-- the chosen task went on to turn `until`, or as far as the fast path goes
abbrev pub WentFar : {X : Type 0} {H : X → Type 0} → Shows X H → Stops → ℕ → Board X H → Board X H → Bool → Type 0
WentFar shown stops until old new calls =
    (x : Scenario) (s : State) (c : ℕ) → Stands shown x old s → chosen x.setup s ≡ Some c → old.choice.down ≡ false →
    turns_of new < until → IsFar stops x c s (state_now x old s new) calls

-- the chosen task makes a system call, which is not at a breakpoint
pub record IsCallPast (stops : Stops) (x : Scenario) (s : State) (c : ℕ) : Type 0 where
  pub call : IsCall x s c
  pub past : is_hit stops.breakpoints (turned x s) ≡ false

-- in the state that the board has reached, the task makes such a call
abbrev pub IsToCall : {X : Type 0} {H : X → Type 0} → Shows X H → Stops → ℕ → Board X H → Board X H → Type 0
IsToCall shown stops task old new = (x : Scenario) (s : State) → Stands shown x old s → IsCallPast stops x (state_now x old s new) task

-- ## the fast path

-- turns before turn `until` may be made on the fast path: nothing is due in them
pub record MayGoFast {X : Type 0} {H : X → Type 0} (shown : Shows X H) (b : Board X H) (until : ℕ) : Type 0 where
  pub stood : StandsForSome shown b
  pub few : until ≤ 1000000000
  pub later : (turn : ℕ) → turn < until → b.due ≢ Some turn

-- and there is such a turn, the supervisor has not faulted before it, and this is the choice
pub record MayGoFastBy {X : Type 0} {H : X → Type 0} (shown : Shows X H) (b : Board X H) (choice : Option ℕ) (until : ℕ) : Type 0 where
  pub may : MayGoFast shown b until
  pub next : b.choice.next ≡ choice
  pub up : b.choice.down ≡ false
  pub left : turns_of b < until

-- turns before turn `until` were made on the fast path
pub record WentFast {X : Type 0} {H : X → Type 0} (shown : Shows X H) (stops : Stops) (until : ℕ) (old new : Board X H) : Type 0 where
  pub glided : (x : Scenario) (s : State) → Stands shown x old s → HasGlidden shown stops x s (turns_of new - turns_of old) new
  pub more : turns_of old ≤ turns_of new
  pub within : turns_of old ≤ until → turns_of new ≤ until

-- the turns are those of one task, which went as far as it can; where `at_syscall` says so, its next
-- instruction is a system call
pub record WentFastBy {X : Type 0} {H : X → Type 0} (shown : Shows X H) (stops : Stops) (task until : ℕ) (old new : Board X H) (at_syscall : Bool) : Type 0 where
  pub fast : WentFast shown stops until old new
  pub far : (x : Scenario) (s : State) → Stands shown x old s → turns_of new < until → IsFar stops x task s (state_now x old s new) at_syscall
  pub calls : at_syscall ≡ true → IsToCall shown stops task old new
  pub before : at_syscall ≡ true → turns_of new < until

-- ## whole turns

-- the last turn had to be a whole one
abbrev pub NeededTurn : {X : Type 0} {H : X → Type 0} → Shows X H → Stops → ℕ → Board X H → Board X H → Type 0
NeededTurn shown stops limit old new =
    (x : Scenario) (s : State) (c : ℕ) → Stands shown x old s → chosen x.setup s ≡ Some c → old.choice.down ≡ false →
    turns_of new < limit → NeedsTurn stops x c s (state_before x old s new)

-- if no task is ready, the last turn is one in which something happened
abbrev pub WaitedFor : {X : Type 0} {H : X → Type 0} → Shows X H → ℕ → Board X H → Board X H → Type 0
WaitedFor shown limit old new =
    (x : Scenario) (s : State) → Stands shown x old s → chosen x.setup s ≡ None → old.choice.down ≡ false →
    lasts x.script limit ≡ true → turns_of new < limit → events_of x.script (state_before x old s new).turn ≢ []

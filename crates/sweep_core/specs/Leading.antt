-- The run that leads. Checkpoints of it are kept, and a run that reaches the state of one of them ends as it
-- does.
use Rattle.std.specs.Prelude.{ℕ, ◌≡◌, ◌≤◌, ◌<◌, ◌+◌, ◌-◌, Bool, List, length, slice_set}
use Rattle.std.specs.List.{AllWithin, HoldsAt}
use Rattle.run_script.specs.Events.{script_data}
use Rattle.run_script.specs.Scripts.{ScriptData}
use Rattle.task_table.specs.model.State.{State}
use Rattle.task_table.specs.model.Sane.{Sane}
use Rattle.board_model.specs.declared.outcomes.Level.TheVariants.{Calls}
use Rattle.board_model.specs.Alike.{reduced}
use Rattle.board_model.specs.Laid.{with_script}
use Rattle.board_model.specs.Run.{Run, run}
use Rattle.board_model.specs.Script.{Scenario}
use Rattle.board_core.specs.declared.board.Board.{Board}
use Rattle.board_core.specs.Data.{Shows}
use Rattle.board_core.specs.Stands.{Stands, script_of, turns_of}
use Rattle.snapshot.specs.Loaded.{IsSpelledBy, sites}
use Rattle.snapshot.specs.Saved.{SpellsState, spelling}
use Rattle.sweep_core.specs.declared.leader.Leader.{Leader}
use Rattle.sweep_core.specs.declared.tally.Tally.{Tally}
use Rattle.sweep_core.specs.declared.told.Told.{Told}
use Rattle.sweep_core.specs.declared.checkpoints.Checkpoint.{Checkpoint}
use Rattle.sweep_core.specs.declared.checkpoints.Checkpoints.{Checkpoints}
use Rattle.sweep_core.specs.Told.{IsToldFrom}

-- ## the checkpoints of a run

-- the checkpoint has these bytes, and this tally of the run up to there
pub record IsSameAs (tally : Tally) (bytes : List ℕ) (m : Checkpoint) : Type 0 where
  pub heard : m.heard ≡ tally
  pub state : m.state.items ≡ bytes

-- such a checkpoint is kept
pub record HasSame (tally : Tally) (bytes : List ℕ) (led : Checkpoints) : Type 0 where
  pub place : ℕ
  pub inside : place < led.count
  pub meeting : Checkpoint
  pub at : HoldsAt (λ m. m ≡ meeting) led.states.items place
  pub same : IsSameAs tally bytes meeting

-- no such checkpoint is kept
abbrev pub HasNone : Tally → List ℕ → Checkpoints → Type 0
HasNone tally bytes led = AllWithin (λ m. IsSameAs tally bytes m → ⊥) led.states.items 0 led.count

-- one more checkpoint is kept, of turn `stop`
pub record IsOneMore (stop : ℕ) (tally : Tally) (bytes : List ℕ) (old new : Checkpoints) : Type 0 where
  pub meeting : Checkpoint
  pub turn : meeting.turn ≡ stop
  pub same : IsSameAs tally bytes meeting
  pub states : new.states.items ≡ slice_set old.states.items old.count meeting
  pub count : new.count ≡ old.count + 1

-- ## runs from checkpoints

-- the run from a state to a turn, with a script
abbrev pub run_from : Scenario → ScriptData → ℕ → State → Run
run_from x script limit s = run Calls (with_script x script) (limit - s.turn) s

-- From turn `over` on, a run with this script goes on as with the scenario's script: the arrival that was
-- laid over it has ended.
abbrev pub GoesOnAs : Scenario → ScriptData → ℕ → Type 0
GoesOnAs x script over = (n : ℕ) (s : State) → Sane x.setup s → over ≤ s.turn → run Calls (with_script x script) n s ≡ run Calls x n s

-- `told` is right for each run that goes on from a state that the checkpoint's bytes spell, with the
-- checkpoint's tally of what came before. The bytes spell several states: these differ in the order of calls
-- and of listens.
abbrev pub IsMeeting : Scenario → ℕ → Bool → Told → Checkpoint → Type 0
IsMeeting x limit mem told m = (s : State) → IsSpelledBy x m.state.items s → IsToldFrom mem m.heard (run Calls x (limit - s.turn) s) told

abbrev pub IsLedBy : Scenario → ℕ → Bool → Told → Checkpoints → Type 0
IsLedBy x limit mem told led = AllWithin (IsMeeting x limit mem told) led.states.items 0 led.count

abbrev pub IsLeading : Scenario → ℕ → Bool → Leader → Type 0
IsLeading x limit mem w = IsLedBy x limit mem w.told w.led

-- ## a run that follows

-- the script with which a board runs
abbrev pub board_script : {X : Type 0} {H : X → Type 0} → Board X H → ScriptData
board_script b = script_data (script_of b)

-- a board stands for a state, and its script has an arrival that has ended by turn `over`
pub record IsUnderWay {X : Type 0} {H : X → Type 0} (shown : Shows X H) (x : Scenario) (over : ℕ) (b : Board X H) (s : State) : Type 0 where
  pub stands : Stands shown (with_script x (board_script b)) b s
  pub sites : sites s.devices ≡ sites x.devices
  pub goes : GoesOnAs x (board_script b) over

-- the board has gone on from state s with this script
abbrev pub HasGoneOn : {X : Type 0} {H : X → Type 0} → Shows X H → Scenario → ScriptData → State → Board X H → Type 0
HasGoneOn shown x script s b = (n : ℕ) × Stands shown (with_script x script) b (run Calls (with_script x script) n s).last

-- the board is before turn `stop`, and `room` has the length of its saved state
pub record IsAtStop {X : Type 0} {H : X → Type 0} (shown : Shows X H) (x : Scenario) (b : Board X H) (s : State) (stop : ℕ) (room : List ℕ) : Type 0 where
  pub stands : Stands shown x b s
  pub turn : turns_of b ≡ stop
  pub long : length room ≡ length (spelling (reduced s))

-- a checkpoint is kept that has this state and this tally
pub record HasMet (x : Scenario) (s : State) (tally : Tally) (led : Checkpoints) : Type 0 where
  pub bytes : List ℕ
  pub spelled : SpellsState x.setup (reduced s) bytes
  pub same : HasSame tally bytes led

-- no checkpoint is kept that has this state and this tally
abbrev pub HasMissed : State → Tally → Checkpoints → Type 0
HasMissed s tally led = HasNone tally (spelling (reduced s)) led

-- one more checkpoint is kept, with this state and this tally
pub record HasPassed (x : Scenario) (s : State) (tally : Tally) (stop : ℕ) (old new : Checkpoints) : Type 0 where
  pub meeting : Checkpoint
  pub heard : meeting.heard ≡ tally
  pub spelled : SpellsState x.setup (reduced s) meeting.state.items
  pub turn : s.turn ≡ stop
  pub inside : old.count < length old.states.items
  pub states : new.states.items ≡ slice_set old.states.items old.count meeting
  pub count : new.count ≡ old.count + 1

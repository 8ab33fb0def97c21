-- What the fault of a task changes: the health of the task, and task 0, which gets a post; nothing else.
use Rattle.std.specs.Prelude.{ℕ, ◌≡◌, ◌≢◌, true, List, [], Some, Contains}
use Rattle.task_table.specs.model.State.{Setup, State, Read}
use Rattle.task_table.specs.model.Reading.{task_at, is_faulted, chosen, IsIdle, IsSameAt}
use Rattle.task_table.specs.model.Effects.{posted}
use Rattle.task_table.specs.model.Start.{begun}
use Rattle.task_table.specs.model.Step.{IsEntry}
use Rattle.board_model.specs.declared.outcomes.Level.{Level}
use Rattle.board_model.specs.Script.{Scenario}
use Rattle.board_model.specs.Turn.{after_events, turn}

-- u is s, except for a fault of task c, which waits for nothing. Of c only the health changed, so it has all
-- its registers and flags as before. The supervisor, unless it is c, was posted the fault bits. Every other
-- task with its call and its listen, the memory, the devices, the time, the number of the next call and the
-- lines are as they were.
pub record IsSameButForFault (g : Setup) (c : ℕ) (s u : State) : Type 0 where
  pub task : task_at u c ≡ record (task_at s c) { health = (task_at u c).health }
  pub idle : IsIdle u c
  pub supervisor : c ≢ 0 → IsSameAt 0 (posted 0 g.fault_bits (begun s)).state u
  pub others : (i : ℕ) → i ≢ c → i ≢ 0 → IsSameAt i s u
  pub memory : u.memory ≡ s.memory
  pub devices : u.devices ≡ s.devices
  pub now : u.now ≡ s.now
  pub next_call : u.next_call ≡ s.next_call
  pub lines : u.lines ≡ s.lines

-- task c is chosen in the turn after s, and is faulted after that turn
pub record IsFaulting (level : Level) (x : Scenario) (s : State) (c : ℕ) : Type 0 where
  pub chosen : chosen x.setup (after_events x s).state ≡ Some c
  pub faulted : is_faulted (task_at (turn level x s).state c).health ≡ true

-- Each read is of an entry of a lease table. Such an entry is read before the borrower's request is checked.
abbrev pub AreEntries : List Read → Type 0
AreEntries reads = (r : Read) → Contains reads r → IsEntry r.part

-- The turn after s makes task c fault and changes nothing else. Nothing was written, and nothing was read for
-- another task except such entries.
pub record ChangesNothingElse (level : Level) (x : Scenario) (s : State) (c : ℕ) : Type 0 where
  pub state : IsSameButForFault x.setup c (after_events x s).state (turn level x s).state
  pub writes : (turn level x s).writes ≡ []
  pub reads : AreEntries (turn level x s).reads

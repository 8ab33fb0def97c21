-- What a turn may do to memory and to calls, and the ledger of a run.
use Rattle.std.specs.Prelude.{ℕ, ◌%◌, ◌<◌, ◌≤◌, ◌≡◌, ◌≢◌, List, [], map, None, Some, Contains, bit_and, fold}
use Rattle.kernel_abi.specs.declared.Ending.{Ending}
use Rattle.kernel_abi.specs.declared.Note.{Note}
use Rattle.kernel_abi.specs.Devices.{DeviceData, devices_fed}
use Rattle.run_script.specs.declared.events.Event.{Event}
use Rattle.run_script.specs.declared.events.Event.TheVariants.{Tick, Irq, Feed}
use Rattle.run_script.specs.Scripts.{events_of}
use Rattle.kernel_abi.specs.declared.Note.TheVariants as note
use Rattle.mem_banks.specs.Memory.{byte_at}
use Rattle.task_table.specs.model.State.{Setup, State, Call, Listen, Read, Turn}
use Rattle.task_table.specs.declared.slot.Phase.TheVariants.{Taken}
use Rattle.task_table.specs.model.Reading.{task_at, chosen}
use Rattle.task_table.specs.model.Borrows.{grant, lease_range}
use Rattle.task_table.specs.model.Grounds.{Lies, MayWrite, AreGrounded, AreGranted, AreAlive, AreReached, touched, with_writes}
use Rattle.task_table.specs.model.Ledger.{IsLedger}
use Rattle.task_table.specs.model.Lives.{IsClosed, IsSilent}
use Rattle.board_model.specs.declared.outcomes.Level.{Level}
use Rattle.board_model.specs.Script.{Scenario, start_of}
use Rattle.board_model.specs.Turn.{after_events, turn}
use Rattle.board_model.specs.Run.{run, turn_after, state_after, notes_after}

-- ## one turn

-- no byte moves through call k: none is written on its ground, none is read for it, and no task takes it or
-- borrows from it
pub record IsUnused (u : Turn) (k : ℕ) : Type 0 where
  pub silent : IsSilent u k
  pub unread : (r : Read) → Contains u.reads r → r.call ≢ k
  pub untouched : (n : Note) → Contains u.notes n → touched n ≢ Some k

-- the devices after an event from outside: a byte goes to its own device
abbrev pub devices_after : List DeviceData → Event → List DeviceData
devices_after devices Tick = devices
devices_after devices (Irq line) = devices
devices_after devices (Feed device byte) = devices_fed devices device (byte % 256)

-- A turn from s keeps to its grounds. Its writes, in order, turn the memory before it into the memory after
-- it. Events write nothing, and neither does a turn in which no task is chosen. If c is chosen, each byte is
-- written on a ground that c has. What is read of a lease and of its entry is what memory grants after the
-- events. Only calls are touched that are open after the events or that c offers in the turn. A closed call
-- stays closed, and no byte moves through it. Events feed devices; then only c changes them, and only where
-- it may reach them.
pub record IsGroundedTurn (level : Level) (x : Scenario) (s : State) : Type 0 where
  pub written : (turn level x s).state.memory ≡ with_writes s.memory (turn level x s).writes
  pub events : (after_events x s).writes ≡ []
  pub idle : chosen x.setup (after_events x s).state ≡ None → (turn level x s).writes ≡ []
  pub grounded : (c : ℕ) → chosen x.setup (after_events x s).state ≡ Some c → AreGrounded x.setup (after_events x s).state c (turn level x s)
  pub granted : (c : ℕ) → chosen x.setup (after_events x s).state ≡ Some c → AreGranted x.setup (after_events x s).state c (turn level x s)
  pub alive : (c : ℕ) → chosen x.setup (after_events x s).state ≡ Some c → AreAlive (after_events x s).state c (turn level x s)
  pub closed : (k : ℕ) → IsClosed s k → IsUnused (turn level x s) k × IsClosed (turn level x s).state k
  pub fed : (after_events x s).state.devices ≡ fold devices_after s.devices (events_of x.script s.turn)
  pub reached : (c : ℕ) → chosen x.setup (after_events x s).state ≡ Some c → AreReached x.setup c (after_events x s).state.devices (turn level x s).state.devices
  pub unreached : chosen x.setup (after_events x s).state ≡ None → (turn level x s).state.devices ≡ (after_events x s).state.devices

-- ## where a byte may change, whatever is written there

-- task c serves this call: it has taken it, and both tasks are still of the births that they had when the
-- call was made
pub record Serves (s : State) (c : ℕ) (call : Call) : Type 0 where
  pub here : Contains s.calls call
  pub taken : call.phase ≡ Taken
  pub server : call.server.index ≡ c
  pub server_birth : (task_at s c).births ≡ call.server.birth
  pub client_birth : (task_at s call.client.index).births ≡ call.client.birth

-- Task c may change the byte at this address in a turn from s that comes to u. After the events of that turn
-- the byte is in one of these places: a region of c's own; the buffer of a task that listens and takes the
-- message that c sends in this turn; the reply buffer of a call that c serves; or a lease of such a call that
-- may be written, as memory has it. In all cases but the first, the task whose buffer or lease it is may
-- write the byte itself.
pub data MayReach (g : Setup) (s : State) (c : ℕ) (u : Turn) (a : ℕ) : Type 0 where
  in_own : MayWrite g c a → MayReach g s c u a
  in_message : (l : Listen) (k copied : ℕ) → Contains s.listens l → Contains u.notes (note.Offer k c l.task) → Contains u.notes (note.Take k copied) → Lies l.buffer a → MayWrite g l.task a → MayReach g s c u a
  in_reply : (call : Call) → Serves s c call → Lies call.reply a → MayWrite g call.client.index a → MayReach g s c u a
  in_lease : (call : Call) (lease : ℕ) → Serves s c call → lease < call.leases → bit_and (grant s call lease).attributes 2 ≢ 0 → Lies (lease_range (grant s call lease)) a → MayWrite g call.client.index a → MayReach g s c u a

-- a task is chosen in the turn from s, and may change the byte
pub record IsOnGround (level : Level) (x : Scenario) (s : State) (a : ℕ) : Type 0 where
  pub task : ℕ
  pub chosen : chosen x.setup (after_events x s).state ≡ Some task
  pub may : MayReach x.setup (after_events x s).state task (turn level x s) a

-- each byte that the turn from s changes is one that the chosen task may change
abbrev pub ChangesOnGrounds : Level → Scenario → State → Type 0
ChangesOnGrounds level x s = (a : ℕ) → byte_at (turn level x s).state.memory a ≢ byte_at s.memory a → IsOnGround level x s a

-- ## a run

-- the notes of a run, without their turns
abbrev pub notes_in : List (ℕ × Note) → List Note
notes_in notes = map (λ n. n.1) notes

-- turn n of a run from the start notes that call k is closed
abbrev pub ClosesIn : Level → Scenario → ℕ → ℕ → Ending → Type 0
ClosesIn level x n k ending = Contains (turn_after level x n (start_of x)).notes (note.Close k ending)

-- what the notes of a run from the start say of calls is true, and agrees with the calls that are open at its
-- end
abbrev pub IsLedgerOfRun : Level → Scenario → ℕ → Type 0
IsLedgerOfRun level x n = let r = run level x n (start_of x) in IsLedger (notes_in r.notes) r.last

-- a run of at most n turns from s consists of its first turns, one after the other
pub record IsOfTurns (level : Level) (x : Scenario) (n : ℕ) (s : State) : Type 0 where
  pub turns : ℕ
  pub few : turns ≤ n
  pub last : (run level x n s).last ≡ state_after level x turns s
  pub notes : notes_in (run level x n s).notes ≡ notes_after level x turns s

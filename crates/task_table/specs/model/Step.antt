-- The steps that may happen in a turn, each with its conditions. Each system call and each instruction is a chain
-- of steps, so what each step keeps, each of them keeps. (s: the state after the events of the turn; c: the chosen
-- task; u: the turn so far)
use Rattle.std.specs.Prelude.{ℕ, ◌≡◌, ◌≢◌, ◌+◌, ◌<◌, ◌≤◌, ◌⊎◌, Bool, true, false, List, length, Option, None, Contains, IfSome, bit_and, nat_lt}
use Rattle.kernel_abi.specs.Faults.{injected_fault}
use Rattle.kernel_abi.specs.declared.Borrow.{Borrow}
use Rattle.kernel_abi.specs.declared.Borrow.TheVariants as borrow
use Rattle.kernel_abi.specs.declared.Ending.{Ending}
use Rattle.kernel_abi.specs.declared.Ending.TheVariants.{Reply, ReplyFault, Client, Restart}
use Rattle.kernel_abi.specs.Devices.{DeviceData, device_limit}
use Rattle.kernel_abi.specs.declared.Fault.{Fault}
use Rattle.kernel_abi.specs.declared.Health.TheVariants.{Well}
use Rattle.kernel_abi.specs.declared.Note.{Note}
use Rattle.kernel_abi.specs.declared.Note.TheVariants as note
use Rattle.kernel_abi.specs.declared.Timer.{Timer}
use Rattle.region_check.specs.declared.Right.TheVariants.{Write}
use Rattle.words_core.specs.declared.Flags.{Flags}
use Rattle.task_table.specs.declared.Line.{Line}
use Rattle.mem_banks.specs.Memory.{IsWithinRam, AreAllBytes}
use Rattle.task_table.specs.model.State.{Setup, State, Birth, Call, Phase, Listen, Slice, Part, MessageFront, Entry, Leased, Read, One, Offered, Taken, Ground, Own, Turn}
use Rattle.task_table.specs.model.Reading.{task_at, call_of, listen_of, bad_byte, admits, IsIdle}
use Rattle.task_table.specs.model.Effects.{◌⨾◌, with_listen, changed, noted, with_processor, stored, copied, looked, given, returned, past_syscall, bits_cleared, posted, with_timer, with_line, closed, faulted_as, faulted, handed, restarted, with_devices}
use Rattle.task_table.specs.model.Rows.{listened_from, goes_on_with}
use Rattle.task_table.specs.model.Sends.{offers_call}
use Rattle.task_table.specs.model.Sane.{IsFitCall, IsFitListen, IsOwned}
use Rattle.task_table.specs.model.Counts.{AreWhole}
use Rattle.task_table.specs.model.Grounds.{IsReached, MayChange, IsAlive, IsRightRead}
use Rattle.task_table.specs.model.Chain.{Chain}

-- a note that does not offer, take, close or borrow from a call; if a device gives out a byte, its number is one
-- that a device may have
abbrev pub is_plain : Note → Bool
is_plain (note.Offer call client server) = false
is_plain (note.Take call copied) = false
is_plain (note.Close call ending) = false
is_plain (note.Borrow call borrow lease offset moved) = false
is_plain (note.Tick now) = true
is_plain (note.Irq line handled) = true
is_plain (note.Post task bits posted) = true
is_plain (note.Syscall task number arguments) = true
is_plain (note.Ret task results) = true
is_plain (note.Fault task fault) = true
is_plain (note.Restart task generation) = true
is_plain (note.In device byte fed) = true
is_plain (note.Out device byte) = nat_lt device device_limit
is_plain (note.IrqStatus task bits status) = true
is_plain (note.Find index found) = true
is_plain (note.Listen task from mask) = true
is_plain (note.Insn task at code) = true
is_plain note.Idle = true
is_plain (note.Low registers) = true
is_plain (note.High registers n z c v) = true

-- the tasks that c may change: c itself, and the client of an open call
abbrev pub IsParty : State → ℕ → ℕ → Type 0
IsParty s c i = (i ≡ c) ⊎ ((call : Call) × Contains s.calls call × (call.client.index ≡ i))

-- call k is open, in this phase
abbrev pub IsOpenAs : State → ℕ → Phase → Type 0
IsOpenAs s k p = (call : Call) × Contains s.calls call × (call.number ≡ k) × (call.phase ≡ p)

-- a borrow for information moves nothing, from offset 0
abbrev pub IsMoved : Borrow → ℕ → ℕ → Type 0
IsMoved borrow.Read offset moved = Unit {0}
IsMoved borrow.Write offset moved = Unit {0}
IsMoved borrow.Info offset moved = (offset ≡ 0) × (moved ≡ 0)

-- a listen that its task may begin
pub record MayListen (g : Setup) (s : State) (l : Listen) : Type 0 where
  pub fit : IsFitListen g l
  pub well : (task_at s l.task).health ≡ Well
  pub idle : IsIdle s l.task
  pub named : (b : Birth) → l.from ≡ One b → (task_at s b.index).births ≡ b.birth
  pub unmet : bit_and (task_at s l.task).posted l.mask ≡ 0
  pub unfit : (k : Call) → Contains s.calls k → k.phase ≡ Offered → k.server.index ≡ l.task → admits l.from k.client ≡ false

-- a new call of c, which has no call yet, under the next number; it is the first new call of the turn
pub record IsNew (s : State) (c : ℕ) (u : Turn) (k : Call) : Type 0 where
  pub client : k.client.index ≡ c
  pub free : call_of u.state c ≡ None
  pub number : k.number ≡ u.state.next_call
  pub next : u.state.next_call ≡ s.next_call
  pub phase : k.phase ≡ Offered

-- a call that c may offer; a task that listens also listened at the beginning of the turn
pub record MayOffer (g : Setup) (s : State) (c : ℕ) (u : Turn) (k : Call) : Type 0 where
  pub fit : IsFitCall g k
  pub new : IsNew s c u k
  pub idle : IsIdle u.state c
  pub well : (task_at u.state c).health ≡ Well
  pub client_birth : (task_at u.state k.client.index).births ≡ k.client.birth
  pub server_birth : (task_at u.state k.server.index).births ≡ k.server.birth
  pub listens : u.state.listens ≡ s.listens
  pub fit_listens : (l : Listen) → Contains s.listens l → IsFitListen g l

-- an offered call that c may take, into a buffer that c may write
pub record MayReceive (g : Setup) (s : State) (c : ℕ) (u : Turn) (k : Call) (buffer : Slice) : Type 0 where
  pub here : Contains u.state.calls k
  pub before : Contains s.calls k
  pub offered : k.phase ≡ Offered
  pub server : k.server.index ≡ c
  pub good : bad_byte g c Write buffer ≡ None

-- n bytes from an address on lie in a range that task i may write, and the range begins at that address
pub record IsTarget (g : Setup) (i : ℕ) (r : Slice) (at n : ℕ) : Type 0 where
  pub good : bad_byte g i Write r ≡ None
  pub base : at ≡ r.base
  pub fits : n ≤ r.len

-- n bytes from an address on may be written on a ground
abbrev pub MayChangeAll : Setup → State → ℕ → Turn → Ground → ℕ → ℕ → Type 0
MayChangeAll g s c u on at n = (a : ℕ) → at ≤ a → a < at + n → MayChange g s c u on a

-- an ending that the call of a client may have: an answer ends only a taken call
abbrev pub Ends : Ending → Option Call → Type 0
Ends Reply call = IfSome call (λ k. k.phase ≡ Taken)
Ends ReplyFault call = IfSome call (λ k. k.phase ≡ Taken)
Ends Client call = Unit {0}
Ends Restart call = Unit {0}

pub data Step (g : Setup) (s : State) (c : ℕ) : Turn → Turn → Type 0 where
  Notes : (n : Note) (u : Turn) → is_plain n ≡ true → Step g s c u (noted n u)
  Gives : (i : ℕ) (values : List ℕ) (u : Turn) → i < length g.tasks → length values ≤ 6 → IsParty s c i → Step g s c u (given i values u)
  Returns : (i : ℕ) (u : Turn) → Step g s c u (returned i u)
  PassesSyscall : (u : Turn) → c < length g.tasks → Step g s c u (past_syscall c u)
  Runs : (registers : List ℕ) (flags : Flags) (u : Turn) → c < length g.tasks → AreWhole registers → Step g s c u (with_processor c registers flags u)
  Clears : (mask : ℕ) (u : Turn) → c < length g.tasks → listen_of u.state c ≡ None → Step g s c u (bits_cleared c mask u)
  Posts : (i bits : ℕ) (u : Turn) → i < length g.tasks → Step g s c u (posted i bits u)
  Times : (timer : Option Timer) (u : Turn) → c < length g.tasks → IfSome timer (λ x. u.state.now < x.deadline) → Step g s c u (with_timer c timer u)
  Lines : (k : ℕ) (line : Line) (u : Turn) → (line.pending ≡ true → (line.enabled ≡ false) × IsOwned g k) → Step g s c u (with_line k line u)
  Listens : (l : Listen) (u : Turn) → l.task ≡ c → MayListen g u.state l → Step g s c u (u ⨾ changed (with_listen l) ⨾ noted (note.Listen l.task (listened_from l.from) l.mask))
  Sends : (k : Call) (u : Turn) → MayOffer g s c u k → Step g s c u (offers_call k u)
  Receives : (k : Call) (buffer : Slice) (u : Turn) → MayReceive g s c u k buffer → Step g s c u (handed Own k buffer u)
  Stores : (on : Ground) (at : ℕ) (bytes : List ℕ) (u : Turn) → AreAllBytes bytes → IsWithinRam u.state.memory at (length bytes) → IsWithinRam s.memory at (length bytes) → MayChangeAll g s c u on at (length bytes) → Step g s c u (stored on at bytes u)
  Copies : (on : Ground) (from at n i : ℕ) (r : Slice) (u : Turn) → IsTarget g i r at n → MayChangeAll g s c u on at n → Step g s c u (copied on from at n u)
  Reaches : (devices : List DeviceData) (u : Turn) → IsReached g c u.state.devices devices → Step g s c u (with_devices devices u)
  Looks : (r : Read) (u : Turn) → IsAlive s c u r.call × IsRightRead g s c r r.part → Step g s c u (looked r u)
  Borrows : (k : ℕ) (way : Borrow) (lease offset moved : ℕ) (u : Turn) → IsAlive s c u k → IsOpenAs u.state k Taken → IsMoved way offset moved → Step g s c u (noted (note.Borrow k way lease offset moved) u)
  Ceases : (i : ℕ) (ending : Ending) (u : Turn) → Ends ending (call_of u.state i) → Step g s c u (closed i ending u)
  Halts : (fault : Fault) (u : Turn) → c < length g.tasks → 1 ≤ fault.number → fault.number ≤ 10 → Step g s c u (faulted g c fault u)
  Strikes : (i : ℕ) (fault : Fault) (ending : Ending) (u : Turn) → i ≢ c → i < length g.tasks → 1 ≤ fault.number → fault.number ≤ 10 → IsParty s c i ⊎ (fault ≡ injected_fault) → Ends ending (call_of u.state i) → Step g s c u (faulted_as g i fault ending u)
  Restarts : (i : ℕ) (start : Bool) (u : Turn) → i ≢ c → i < length g.tasks → Step g s c u (restarted g i start u)

-- ## what a system call or an instruction does as a whole

-- the step does not fault c, and restarts no task
abbrev pub Spares : {g : Setup} {s : State} {c : ℕ} {u v : Turn} → Step g s c u v → Type 0
Spares (Notes n u a) = Unit {0}
Spares (Gives i values u a b d) = Unit {0}
Spares (Returns i u) = Unit {0}
Spares (PassesSyscall u a) = Unit {0}
Spares (Runs registers flags u a b) = Unit {0}
Spares (Clears mask u a b) = Unit {0}
Spares (Posts i bits u a) = Unit {0}
Spares (Times timer u a b) = Unit {0}
Spares (Lines k line u a) = Unit {0}
Spares (Listens l u a b) = Unit {0}
Spares (Sends k u a) = Unit {0}
Spares (Receives k buffer u a) = Unit {0}
Spares (Stores on at bytes u a b d e) = Unit {0}
Spares (Copies on from at n i r u a b) = Unit {0}
Spares (Reaches devices u a) = Unit {0}
Spares (Looks r u a) = Unit {0}
Spares (Borrows k way lease offset moved u a b d) = Unit {0}
Spares (Ceases i ending u a) = Unit {0}
Spares (Halts fault u a b d) = ⊥
Spares (Strikes i fault ending u a b d e f h) = Unit {0}
Spares (Restarts i start u a b) = ⊥

-- a step that does not fault c and changes no birth
abbrev pub Spared : Setup → State → ℕ → Turn → Turn → Type 0
Spared g s c u v = (step : Step g s c u v) × Spares step

-- an entry of a lease table is read
abbrev pub IsEntry : Part → Type 0
IsEntry MessageFront = ⊥
IsEntry (Entry attributes base length) = Unit {0}
IsEntry Leased = ⊥

-- from u to v nothing of another task was read except entries of lease tables
abbrev pub ReadsEntries : Turn → Turn → Type 0
ReadsEntries u v = (r : Read) → Contains v.reads r → Contains u.reads r ⊎ IsEntry r.part

-- One of three things. c faults, at once or after steps that changed, noted and wrote nothing and read only
-- entries. Or there are only steps that do not fault c and restart no task. Or c restarts another task at once, and
-- goes on with results.
pub data CallOutcome (g : Setup) (s : State) (c : ℕ) : Turn → Turn → Type 0 where
  Faults : (fault : Fault) (u v : Turn) → c < length g.tasks → 1 ≤ fault.number → fault.number ≤ 10 → Chain (Spared g s c) u v → v.state ≡ u.state → v.notes ≡ u.notes → v.writes ≡ u.writes → ReadsEntries u v → CallOutcome g s c u (faulted g c fault v)
  Goes : (u v : Turn) → Chain (Spared g s c) u v → CallOutcome g s c u v
  GoesAfterRestart : (i : ℕ) (start : Bool) (values : List ℕ) (u : Turn) → c < length g.tasks → i ≢ c → i < length g.tasks → length values ≤ 6 → CallOutcome g s c u (goes_on_with c values (restarted g i start u))

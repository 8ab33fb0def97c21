-- On which grounds the turn of a task writes, and which calls it touches. (s: the state after the events of the
-- turn; c: the chosen task; u: the turn so far)
use Rattle.std.specs.Prelude.{ℕ, ◌+◌, ◌*◌, ◌<◌, ◌≤◌, ◌≡◌, ◌≢◌, ◌⊎◌, true, Option, None, Some, IfSome, Contains, bit_and, List, [], ◌∷◌, fold}
use Rattle.kernel_abi.specs.declared.LeaseEntry.{LeaseEntry}
use Rattle.kernel_abi.specs.declared.Note.{Note}
use Rattle.kernel_abi.specs.declared.Note.TheVariants as note
use Rattle.kernel_abi.specs.Devices.{DeviceData, devices_loaded, devices_stored}
use Rattle.region_check.specs.declared.Right.{Right}
use Rattle.region_check.specs.declared.Right.TheVariants.{Read, Write}
use Rattle.region_check.specs.Rights.{may_copy, may_use}
use Rattle.mem_banks.specs.Memory.{Memory, with_bytes}
use Rattle.task_table.specs.model.State.{Setup, State, Call, Listen, Slice, Taken, Ground, Own, Message, Reply, Lease, Write as Written, Read as ReadPart, Part, MessageFront, Entry, Leased, Turn}
use Rattle.task_table.specs.model.Reading.{setup_at}
use Rattle.task_table.specs.model.Borrows.{grant}

-- a byte lies in a range
abbrev pub Lies : Slice → ℕ → Type 0
Lies r a = (r.base ≤ a) × (a < r.base + r.len)

-- a task may write the byte, in a region that is not a device
abbrev pub MayWrite : Setup → ℕ → ℕ → Type 0
MayWrite g i a = may_copy (setup_at g i).regions Write a ≡ true

-- ## what a turn may change

-- call k is open, and taken with this task as its server
pub record IsTakenBy (s : State) (server k : ℕ) (call : Call) : Type 0 where
  pub here : Contains s.calls call
  pub number : call.number ≡ k
  pub server_is : call.server.index ≡ server
  pub phase : call.phase ≡ Taken

-- the byte lies in the buffer of a task that listens; c offers call k to that task in this turn, and the task takes it
pub record IsMessageGround (g : Setup) (s : State) (c : ℕ) (u : Turn) (k a : ℕ) : Type 0 where
  pub listen : Listen
  pub here : Contains s.listens listen
  pub offered : Contains u.notes (note.Offer k c listen.task)
  pub copied : ℕ
  pub taken : Contains u.notes (note.Take k copied)
  pub lies : Lies listen.buffer a
  pub may : MayWrite g listen.task a

-- the byte lies in the reply buffer of call k, which c has taken, and the client of k may write it
pub record IsReplyGround (g : Setup) (s : State) (c k a : ℕ) : Type 0 where
  pub call : Call
  pub taken : IsTakenBy s c k call
  pub lies : Lies call.reply a
  pub may : MayWrite g call.client.index a

-- The byte lies in the range of a lease of call k, which c has taken. The entry of the lease was read in this turn
-- as memory has it after the events. Its bit 1 is set, and the client may write the byte.
pub record IsLeaseGround (g : Setup) (s : State) (c : ℕ) (u : Turn) (k a : ℕ) : Type 0 where
  pub call : Call
  pub taken : IsTakenBy s c k call
  pub lease : ℕ
  pub there : lease < call.leases
  pub attributes : ℕ
  pub range : Slice
  pub read : Contains u.reads record { call = k; part = Entry attributes range.base range.len; base = call.table + 12 * lease; len = 12 }
  pub in_memory : grant s call lease ≡ record { attributes = attributes; base = range.base; len = range.len }
  pub writable : bit_and attributes 2 ≢ 0
  pub lies : Lies range a
  pub may : MayWrite g call.client.index a

abbrev pub MayChange : Setup → State → ℕ → Turn → Ground → ℕ → Type 0
MayChange g s c u Own a = MayWrite g c a
MayChange g s c u (Message k) a = IsMessageGround g s c u k a
MayChange g s c u (Reply k) a = IsReplyGround g s c k a
MayChange g s c u (Lease k) a = IsLeaseGround g s c u k a

-- a task may use the byte with this right
abbrev pub MayUse : Setup → ℕ → Right → ℕ → Type 0
MayUse g i right a = may_use (setup_at g i).regions right a ≡ true

-- c changes the devices to these by a load from an address that it may read, or by a store to one that it may write
abbrev pub IsReached : Setup → ℕ → List DeviceData → List DeviceData → Type 0
IsReached g c old new =
    ((a : ℕ) × MayUse g c Read a × (new ≡ devices_loaded old a)) ⊎ ((a : ℕ) × MayUse g c Write a × (new ≡ devices_stored old a))

-- in a turn of c, each change of the devices is one of these
pub data AreReached (g : Setup) (c : ℕ) : List DeviceData → List DeviceData → Type 0 where
  Untouched : (devices : List DeviceData) → AreReached g c devices devices
  Once : (old between new : List DeviceData) → AreReached g c old between → IsReached g c between new → AreReached g c old new

-- the task has the ground of each write
abbrev pub AreGrounded : Setup → State → ℕ → Turn → Type 0
AreGrounded g s c u = (w : Written) → Contains u.writes w → MayChange g s c u w.on w.address

-- the memory after all these writes, in order
abbrev pub with_writes : Memory → List Written → Memory
with_writes m writes = fold (λ v w. with_bytes v w.address (w.byte ∷ [])) m writes

-- ## what a turn may read of a lease

-- a task may read the byte, in a region that is not a device
abbrev pub MayRead : Setup → ℕ → ℕ → Type 0
MayRead g i a = may_copy (setup_at g i).regions Read a ≡ true

-- call k is open, c has taken it, and it has this lease; its entry in memory is this one
pub record IsLent (s : State) (c k : ℕ) (entry : LeaseEntry) : Type 0 where
  pub call : Call
  pub taken : IsTakenBy s c k call
  pub lease : ℕ
  pub there : lease < call.leases
  pub in_memory : grant s call lease ≡ entry

-- an entry is read at its place in the lease table, as memory has it after the events, and the client may read its bytes
pub record IsEntryRead (g : Setup) (s : State) (c : ℕ) (r : ReadPart) (entry : LeaseEntry) : Type 0 where
  pub lent : IsLent s c r.call entry
  pub base : r.base ≡ lent.call.table + 12 * lent.lease
  pub len : r.len ≡ 12
  pub may : (a : ℕ) → r.base ≤ a → a < r.base + r.len → MayRead g lent.call.client.index a

-- bytes are read in the range of a lease whose entry has bit 0 set, and the client may read them
pub record IsLeaseRead (g : Setup) (s : State) (c : ℕ) (r : ReadPart) : Type 0 where
  pub entry : LeaseEntry
  pub lent : IsLent s c r.call entry
  pub readable : bit_and entry.attributes 1 ≢ 0
  pub low : entry.base ≤ r.base
  pub high : r.base + r.len ≤ entry.base + entry.len
  pub may : (a : ℕ) → r.base ≤ a → a < r.base + r.len → MayRead g lent.call.client.index a

-- the condition on a read, by what it reads; of a message only that its call is alive, which is said below
abbrev pub IsRightRead : Setup → State → ℕ → ReadPart → Part → Type 0
IsRightRead g s c r MessageFront = Unit {0}
IsRightRead g s c r (Entry attributes base length) = IsEntryRead g s c r record { attributes = attributes; base = base; len = length }
IsRightRead g s c r Leased = IsLeaseRead g s c r

-- each read of an entry or of a lease is one that memory grants
abbrev pub AreGranted : Setup → State → ℕ → Turn → Type 0
AreGranted g s c u = (r : ReadPart) → Contains u.reads r → IsRightRead g s c r r.part

-- ## which calls it touches

-- call k is open, or c offers it in this turn
abbrev pub IsAlive : State → ℕ → Turn → ℕ → Type 0
IsAlive s c u k =
    ((call : Call) × Contains s.calls call × (call.number ≡ k)) ⊎ ((server : ℕ) × Contains u.notes (note.Offer k c server))

-- the call on whose ground bytes are written; the call that a note takes or borrows from
abbrev pub call_of_ground : Ground → Option ℕ
call_of_ground Own = None
call_of_ground (Message k) = Some k
call_of_ground (Reply k) = Some k
call_of_ground (Lease k) = Some k

abbrev pub touched : Note → Option ℕ
touched (note.Take call copied) = Some call
touched (note.Borrow call borrow lease offset moved) = Some call
touched (note.Tick now) = None
touched (note.Irq line handled) = None
touched (note.Post task bits posted) = None
touched (note.Syscall task number arguments) = None
touched (note.Ret task results) = None
touched (note.Offer call client server) = None
touched (note.Close call ending) = None
touched (note.Fault task fault) = None
touched (note.Restart task generation) = None
touched (note.In device byte fed) = None
touched (note.Out device byte) = None
touched (note.IrqStatus task bits status) = None
touched (note.Find index found) = None
touched (note.Listen task from mask) = None
touched (note.Insn task at code) = None
touched note.Idle = None
touched (note.Low registers) = None
touched (note.High registers n z c v) = None

-- each call on whose ground c writes, for which it reads, which it takes or from which it borrows is alive
pub record AreAlive (s : State) (c : ℕ) (u : Turn) : Type 0 where
  pub written : (w : Written) → Contains u.writes w → IfSome (call_of_ground w.on) (IsAlive s c u)
  pub read : (r : ReadPart) → Contains u.reads r → IsAlive s c u r.call
  pub touches : (n : Note) → Contains u.notes n → IfSome (touched n) (IsAlive s c u)

-- What is true of a state after every event and instruction, in parts; and what is also true between turns.
use Rattle.words_core.specs.Regs.{stack_pointer, program_counter}
use Rattle.std.specs.Prelude.{ℕ, ◌+◌, ◌*◌, ◌%◌, ◌<◌, ◌≤◌, ◌≡◌, ◌≢◌, true, false, List, length, None, Contains, slice_index, IfSome, bit_and, ◌==◌}
use Rattle.std.specs.List.{count_by}
use Rattle.kernel_abi.specs.Devices.{AreSaneDevices}
use Rattle.kernel_abi.specs.declared.Health.{Health}
use Rattle.kernel_abi.specs.declared.Health.TheVariants.{Well, Stopped, Faulted}
use Rattle.region_check.specs.declared.Right.TheVariants.{Read, Write}
use Rattle.mem_banks.specs.Memory.{AreAllBytes}
use Rattle.task_table.specs.model.Placed.{ArePlaced}
use Rattle.task_table.specs.model.State.{Setup, LineSetup, Task, Call, Listen, State, Birth, Offered, One}
use Rattle.task_table.specs.model.Reading.{task_at, line_at, admits, is_valid, bad_byte}

-- ## the parts, each a property of as little of a state as possible

-- what an open call keeps from its offer to its close
pub record IsFitCall (g : Setup) (c : Call) : Type 0 where
  pub client : c.client.index < length g.tasks
  pub server : c.server.index < length g.tasks
  pub apart : c.client.index ≢ c.server.index
  pub valid : (is_valid c.message ≡ true) × (is_valid c.reply ≡ true) × (is_valid record { base = c.table; len = 12 * c.leases } ≡ true)
  pub readable : bad_byte g c.client.index Read c.message ≡ None
  pub writable : bad_byte g c.client.index Write c.reply ≡ None

-- no two open calls have the same client or number, no call is in the list twice, and each number is below the next one
pub record AreCalls (g : Setup) (next : ℕ) (calls : List Call) : Type 0 where
  pub once : (i : ℕ) → count_by (λ c. c.client.index == i) calls ≤ 1
  pub fit : (c : Call) → Contains calls c → IsFitCall g c
  pub below : (c : Call) → Contains calls c → c.number < next
  pub client : (c d : Call) → Contains calls c → Contains calls d → c.client.index ≡ d.client.index → c ≡ d
  pub number : (c d : Call) → Contains calls c → Contains calls d → c.number ≡ d.number → c ≡ d

pub record IsFitListen (g : Setup) (l : Listen) : Type 0 where
  pub there : l.task < length g.tasks
  pub names : (b : Birth) → l.from ≡ One b → (b.index < length g.tasks) × (b.index ≢ l.task)
  pub valid : is_valid l.buffer ≡ true
  pub writable : bad_byte g l.task Write l.buffer ≡ None

-- a task has at most one listen, which is in the list once
pub record AreListens (g : Setup) (listens : List Listen) : Type 0 where
  pub once : (i : ℕ) → count_by (λ l. l.task == i) listens ≤ 1
  pub fit : (l : Listen) → Contains listens l → IsFitListen g l
  pub task : (l m : Listen) → Contains listens l → Contains listens m → l.task ≡ m.task → l ≡ m

-- a task that waits is well, and waits for one thing only
pub record AreWell (s : State) : Type 0 where
  pub client : (c : Call) → Contains s.calls c → (task_at s c.client.index).health ≡ Well
  pub listener : (l : Listen) → Contains s.listens l → (task_at s l.task).health ≡ Well
  pub alone : (c : Call) (l : Listen) → Contains s.calls c → Contains s.listens l → c.client.index ≢ l.task

-- the births of the tasks that wait, and of the tasks that they wait for, are the present ones (W: the pairs of
-- tasks for which this is required)
pub record ArePresent (W : ℕ → ℕ → Type 0) (s : State) : Type 0 where
  pub client : (c : Call) → Contains s.calls c → (task_at s c.client.index).births ≡ c.client.birth
  pub server : (c : Call) → Contains s.calls c → W c.client.index c.server.index → (task_at s c.server.index).births ≡ c.server.birth
  pub named : (l : Listen) (b : Birth) → Contains s.listens l → l.from ≡ One b → W l.task b.index → (task_at s b.index).births ≡ b.birth

-- no task that listens has a posted bit under its mask (M: the tasks for which this is required)
abbrev pub AreUnmet : (ℕ → Type 0) → State → Type 0
AreUnmet M s = (l : Listen) → Contains s.listens l → M l.task → bit_and (task_at s l.task).posted l.mask ≡ 0

-- no call that is offered to a listening task is one that its listen accepts (F: the clients for which this is required)
abbrev pub AreUnfit : (ℕ → Type 0) → State → Type 0
AreUnfit F s = (c : Call) (l : Listen) → Contains s.calls c → Contains s.listens l → c.phase ≡ Offered → c.server.index ≡ l.task → F c.client.index → admits l.from c.client ≡ false

-- the deadline of a set timer is above now (T: the tasks for which this is required)
abbrev pub AreAhead : (ℕ → Type 0) → State → Type 0
AreAhead T s = (i : ℕ) → i < length s.tasks → T i → IfSome (task_at s i).timer (λ x. s.now < x.deadline)

-- sixteen registers, bit 0 of PC and the two low bits of SP are 0, a fault has a number of 1 to 10
abbrev pub IsFaultKnown : Health → Type 0
IsFaultKnown Well = Unit {0}
IsFaultKnown Stopped = Unit {0}
IsFaultKnown (Faulted f) = (1 ≤ f.number) × (f.number ≤ 10)

pub record IsSaneTask (t : Task) : Type 0 where
  pub sixteen : length t.registers ≡ 16
  pub even : slice_index t.registers program_counter % 2 ≡ 0
  pub aligned : slice_index t.registers stack_pointer % 4 ≡ 0
  pub fault : IsFaultKnown t.health

-- a pending line is disabled and owned
abbrev pub IsOwned : Setup → ℕ → Type 0
IsOwned g k = (o : LineSetup) × Contains g.lines o × (o.line ≡ k)

abbrev pub AreLines : Setup → State → Type 0
AreLines g s = (k : ℕ) → (line_at s k).pending ≡ true → ((line_at s k).enabled ≡ false) × IsOwned g k

-- the parts that depend only on the image, or that no effect breaks
pub record IsSteady (g : Setup) (s : State) : Type 0 where
  pub calls : AreCalls g s.next_call s.calls
  pub listens : AreListens g s.listens
  pub tasks : (i : ℕ) → i < length s.tasks → IsSaneTask (task_at s i)
  pub lines : AreLines g s
  pub as_many : length s.tasks ≡ length g.tasks
  pub current : s.current < length s.tasks
  pub flash : s.memory.flash ≡ g.flash
  pub flash_bytes : AreAllBytes s.memory.flash
  pub bytes : AreAllBytes s.memory.ram
  pub placed : ArePlaced g s.memory
  pub devices : AreSaneDevices s.devices

-- sane, except for the tasks that M, F, T and W leave out
pub record IsSaneBut (M F T : ℕ → Type 0) (W : ℕ → ℕ → Type 0) (g : Setup) (s : State) : Type 0 where
  pub steady : IsSteady g s
  pub well : AreWell s
  pub present : ArePresent W s
  pub unmet : AreUnmet M s
  pub unfit : AreUnfit F s
  pub ahead : AreAhead T s

abbrev pub Every : ℕ → Type 0
Every i = Unit {0}

abbrev pub Both : ℕ → ℕ → Type 0
Both i j = Unit {0}

abbrev pub Sane : Setup → State → Type 0
Sane g s = IsSaneBut Every Every Every Both g s

-- what is true only between turns
pub record IsCounted (s : State) : Type 0 where
  pub some : 1 ≤ s.next_call
  pub calls : s.next_call ≤ s.turn + 1
  pub now : s.now ≤ 9 * s.turn

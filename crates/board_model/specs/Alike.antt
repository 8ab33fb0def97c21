-- Two turns that look alike to a viewer. The viewer sees each birth as a number and the bytes at some
-- addresses, and hears some notes.
use Rattle.std.specs.Prelude.{◌≡◌, ℕ, ◌+◌, ◌%◌, ◌<◌, ◌≤◌, Bool, true, List, [], map, length, filter, slice_get, Contains}
use Rattle.kernel_abi.specs.declared.Note.{Note}
use Rattle.mem_banks.specs.Memory.{Memory}
use Rattle.board_model.specs.Levels.{is_noted_always}
use Rattle.task_table.specs.model.State.{Birth, Task, Call, From, Any, One, KernelOnly, Listen, State, Read, Turn}

pub record Viewer : Type 0 where
  pub birth : ℕ → ℕ  -- what it sees of a number of births
  pub sees : ℕ → Bool  -- at which addresses it sees bytes
  pub hears : Note → Bool  -- which notes it hears

-- ## a state with its births as the viewer sees them

abbrev pub seen_birth : (ℕ → ℕ) → Birth → Birth
seen_birth v b = record { index = b.index; birth = v b.birth }

abbrev pub seen_task : (ℕ → ℕ) → Task → Task
seen_task v t = record t { births = v t.births }

abbrev pub seen_call : (ℕ → ℕ) → Call → Call
seen_call v c = record c { client = seen_birth v c.client; server = seen_birth v c.server }

abbrev pub seen_from : (ℕ → ℕ) → From → From
seen_from v Any = Any
seen_from v (One b) = One (seen_birth v b)
seen_from v KernelOnly = KernelOnly

abbrev pub seen_listen : (ℕ → ℕ) → Listen → Listen
seen_listen v l = record l { from = seen_from v l.from }

unfoldable pub seen : (ℕ → ℕ) → State → State
seen v s = record s { tasks = map (seen_task v) s.tasks; calls = map (seen_call v) s.calls; listens = map (seen_listen v) s.listens }

-- the state without its memory
abbrev pub but_memory : State → State
but_memory s = record s { memory = record { flash = []; ram = [] } }

-- the state with each birth modulo 64, which is all that an id says of it
abbrev pub reduced : State → State
reduced s = seen (λ b. b % 64) s

-- ## two turns

-- memories of the same length, with the same bytes where they are seen
pub record AreAlikeMemories (sees : ℕ → Bool) (m n : Memory) : Type 0 where
  pub flash_length : length m.flash ≡ length n.flash
  pub ram_length : length m.ram ≡ length n.ram
  pub flash : (k : ℕ) → sees (0x08000000 + k) ≡ true → slice_get m.flash k ≡ slice_get n.flash k
  pub ram : (k : ℕ) → sees (0x20000000 + k) ≡ true → slice_get m.ram k ≡ slice_get n.ram k

-- The notes of t are those of u that the viewer hears. All else is the same, except for births and bytes that
-- it does not see.
pub record IsAlike (w : Viewer) (t u : Turn) : Type 0 where
  pub state : but_memory (seen w.birth t.state) ≡ but_memory (seen w.birth u.state)
  pub memory : AreAlikeMemories w.sees t.state.memory u.state.memory
  pub notes : t.notes ≡ filter w.hears u.notes
  pub writes : t.writes ≡ u.writes
  pub reads : t.reads ≡ u.reads

-- the viewer sees all bytes that were read for another task
abbrev pub AreSeen : (ℕ → Bool) → List Read → Type 0
AreSeen sees reads = (r : Read) → Contains reads r → (a : ℕ) → r.base ≤ a → a < r.base + r.len → sees a ≡ true

-- the turns are alike if the viewer sees what the first one has read
pub record IsAlikeWhereSeen (w : Viewer) (t u : Turn) : Type 0 where
  pub alike : AreSeen w.sees t.reads → IsAlike w t u

-- The viewer hears all that is always noted. What it sees of a birth has the birth's generation, and decides
-- what it sees of the next one.
pub record IsAttentive (w : Viewer) : Type 0 where
  pub hears : (n : Note) → is_noted_always n ≡ true → w.hears n ≡ true
  pub generation : (b : ℕ) → w.birth b % 64 ≡ b % 64
  pub next : (b : ℕ) → w.birth (b + 1) ≡ w.birth (w.birth b + 1)

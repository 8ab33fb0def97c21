-- What a turn depends on. Here the part of a turn after its events is made with another memory, which agrees
-- with the first one on what the turn reads.
use Rattle.std.specs.Prelude.{◌≡◌, ℕ, ◌+◌, Bool, true, ◌&&◌, ◌||◌, not, List, length, nat_le, nat_lt, Some}
use Rattle.std.specs.List.{list_any}
use Rattle.region_check.specs.Rights.{is_inside}
use Rattle.mem_banks.specs.Memory.{Memory, byte_at}
use Rattle.task_table.specs.model.State.{Setup, State, Read, Turn}
use Rattle.task_table.specs.model.Reading.{setup_at, chosen}
use Rattle.board_model.specs.declared.outcomes.Level.{Level}
use Rattle.board_model.specs.Script.{Scenario}
use Rattle.board_model.specs.Turn.{turn, turn_of, ended, after_events}
use Rattle.board_model.specs.Alike.{but_memory}

-- a byte of a region of the task; devices do not count
abbrev pub is_own : Setup → ℕ → ℕ → Bool
is_own g c a = list_any (λ r. is_inside r a && not r.rights.device) (setup_at g c).regions

-- a byte of what was read for another task
abbrev pub covers : ℕ → Read → Bool
covers a r = nat_le r.base a && nat_lt a (r.base + r.len)

-- whether a turn of c with these reads reads the byte at an address
abbrev pub is_read : Setup → ℕ → List Read → ℕ → Bool
is_read g c reads a = is_own g c a || list_any (covers a) reads

-- two memories with bytes at the same addresses, and with the same bytes where the turn reads
pub record AgreesOnReads (g : Setup) (c : ℕ) (reads : List Read) (m n : Memory) : Type 0 where
  pub flash_length : length m.flash ≡ length n.flash
  pub ram_length : length m.ram ≡ length n.ram
  pub bytes : (a : ℕ) → is_read g c reads a ≡ true → byte_at m a ≡ byte_at n a

-- the part of a turn after its events
abbrev pub rest_of : Level → Setup → Turn → Turn
rest_of level g t = ended (turn_of level g (chosen g t.state) t)

abbrev pub with_memory : Memory → Turn → Turn
with_memory m t = record t { state = record t.state { memory = m } }

-- the same writes, reads and notes, and the same next state except for memory
pub record IsSameButMemory (t u : Turn) : Type 0 where
  pub writes : t.writes ≡ u.writes
  pub reads : t.reads ≡ u.reads
  pub notes : t.notes ≡ u.notes
  pub state : but_memory t.state ≡ but_memory u.state

-- the memory agrees with the one after the events on what the turn reads from there on
abbrev pub Agrees : Level → Scenario → State → Memory → Type 0
Agrees level x s m = (c : ℕ) → chosen x.setup (after_events x s).state ≡ Some c → AgreesOnReads x.setup c (turn level x s).reads (after_events x s).state.memory m

-- with any such memory the turn would do the same after its events
abbrev pub DependsOnReads : Level → Scenario → State → Type 0
DependsOnReads level x s = (m : Memory) → Agrees level x s m → IsSameButMemory (turn level x s) (rest_of level x.setup (with_memory m (after_events x s)))

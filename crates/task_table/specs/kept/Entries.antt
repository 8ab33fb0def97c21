-- Entries of lease tables that are kept for tasks that wait for a reply. (Hubris Reference: leases.)
use Rattle.std.specs.Prelude.{ℕ, ◌≡◌, ◌<◌, ◌≤◌, ◌+◌, ◌-◌, ◌*◌, Bool, true, false, ◌&&◌, List, length, Option, Some, None, is_some, slice_index_or, nat_lt, if◌then◌else◌}
use Rattle.kernel_abi.specs.declared.LeaseEntry.{LeaseEntry}
use Rattle.region_check.specs.Rights.{first_bad}
use Rattle.region_check.specs.declared.Right.TheVariants.{Read}
use Rattle.mem_banks.specs.Memory.{Memory, number_at}
use Rattle.task_table.specs.declared.entry.KeptEntry.{KeptEntry}
use Rattle.task_table.specs.declared.slot.OpenCall.{OpenCall}
use Rattle.task_table.specs.declared.slot.Slot.{Slot}
use Rattle.task_table.specs.declared.slot.Wait.{Wait}
use Rattle.task_table.specs.declared.slot.Wait.TheVariants as wait
use Rattle.task_table.specs.model.State.{TaskSetup}
use Rattle.task_table.specs.model.Reading.{setup_in, is_taken}

-- the entry that is kept for a task
abbrev pub kept_at : List (Option KeptEntry) → ℕ → Option KeptEntry
kept_at entries i = slice_index_or entries i None

-- the entry at an address is kept for a task, with these contents
abbrev pub IsKeptFor : List (Option KeptEntry) → ℕ → ℕ → LeaseEntry → Type 0
IsKeptFor entries i base e = (x : KeptEntry) × (kept_at entries i ≡ Some x) × (x.base ≡ base) × (x.entry ≡ e)

-- ## what memory has there

abbrev pub entry_at : Memory → ℕ → LeaseEntry
entry_at m a = record { attributes = number_at m a 4; base = number_at m (a + 4) 4; len = number_at m (a + 8) 4 }

-- one of n bytes from an address on is one of the entry's twelve bytes
abbrev pub meets : KeptEntry → ℕ → ℕ → Bool
meets x a n = nat_lt a (x.base + 12) && nat_lt x.base (a + n)

-- a store of one to four bytes that overlaps the entry at base begins at one of these addresses
pub record IsWatched (low span base : ℕ) : Type 0 where
  pub from : low ≤ base - 3
  pub to : base + 12 ≤ low + span

-- each kept entry is what memory has, and is watched
pub record AreFresh (m : Memory) (low span : ℕ) (entries : List (Option KeptEntry)) : Type 0 where
  pub is : (i : ℕ) (x : KeptEntry) → kept_at entries i ≡ Some x → entry_at m x.base ≡ x.entry
  pub watched : (i : ℕ) (x : KeptEntry) → kept_at entries i ≡ Some x → IsWatched low span x.base

-- the entries that are left are those that have none of n bytes from an address on
pub record AreLeft (old : List (Option KeptEntry)) (a n : ℕ) (new : List (Option KeptEntry)) (low span : ℕ) : Type 0 where
  pub count : length new ≡ length old
  pub there : (i : ℕ) (x : KeptEntry) → kept_at new i ≡ Some x → kept_at old i ≡ Some x
  pub apart : (i : ℕ) (x : KeptEntry) → kept_at new i ≡ Some x → meets x a n ≡ false
  pub stay : (i : ℕ) (x : KeptEntry) → kept_at old i ≡ Some x → meets x a n ≡ false → kept_at new i ≡ Some x
  pub watched : (i : ℕ) (x : KeptEntry) → kept_at new i ≡ Some x → IsWatched low span x.base

-- ## whose it is

-- the call that a task waits to end, if it is taken
abbrev pub taken_of : Wait → Option OpenCall
taken_of (wait.Call c) = if is_taken c.phase then Some c else None
taken_of (wait.Listen l) = None
taken_of wait.Nothing = None

-- the entry is that of a lease of the taken call that a task with this wait waits to end
pub record IsEntryOf (x : KeptEntry) (w : Wait) : Type 0 where
  pub taken : is_some (taken_of w) ≡ true
  pub listed : (c : OpenCall) → taken_of w ≡ Some c → x.lease < c.leases
  pub base : (c : OpenCall) → taken_of w ≡ Some c → x.base ≡ c.table + 12 * x.lease

-- each entry that is kept for a task is of its call, and the task may read it
pub record AreEntriesOf (tasks : List TaskSetup) (slots : List Slot) (entries : List (Option KeptEntry)) : Type 0 where
  pub count : length entries ≡ length slots
  pub each : (i : ℕ) (x : KeptEntry) → kept_at entries i ≡ Some x → (d : Slot) → IsEntryOf x (slice_index_or slots i d).wait
  pub readable : (i : ℕ) (x : KeptEntry) → kept_at entries i ≡ Some x → first_bad (setup_in tasks i).regions Read x.base 12 ≡ None

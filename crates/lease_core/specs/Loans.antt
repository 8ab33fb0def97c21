-- Borrows, as the code represents them; and when a borrow leaves the entry of its lease kept.
use Rattle.kernel_abi.specs.Arguments.{r4, borrow_args, info_args}
use Rattle.kernel_abi.specs.Ids.{index_of}
use Rattle.std.specs.Prelude.{ℕ, ◌≡◌, ◌+◌, ◌*◌, ◌<◌, ◌≤◌, ◌⊎◌, true, false, List, [], ◌∷◌, None, Some, Result, Ok, Err, Contains, ◌==◌, nat_lt, nat_le, bit_and}
use Rattle.kernel_abi.specs.declared.LeaseEntry.{LeaseEntry}
use Rattle.kernel_abi.specs.declared.Note.TheVariants as note
use Rattle.region_check.specs.declared.Right.TheVariants.{Read}
use Rattle.mem_banks.specs.Memory.{Memory, IsWithin, IsWithinRam}
use Rattle.task_table.specs.model.State.{Setup, State, Call, Write, Turn}
use Rattle.task_table.specs.model.Reading.{register, arguments, is_ready, is_valid, bad_byte, taken_by}
use Rattle.task_table.specs.kept.Entries.{kept_at, IsKeptFor, entry_at}
use Rattle.task_table.specs.model.Effects.{◌⨾◌, noted}
use Rattle.task_table.specs.model.Rows.{goes_on_with}
use Rattle.task_table.specs.model.Borrows.{Way as Needs, reading, writing, entry_range, grant, lease_range, buffer_of, part_of, borrowed, informed}
use Rattle.task_table.specs.kept.Holds.{entries_of}
use Rattle.task_table.specs.declared.entry.KeptEntry.{KeptEntry}
use Rattle.task_table.specs.declared.kernel.Kernel.{Kernel}
use Rattle.task_table.specs.declared.slot.Slice.{Slice}
use Rattle.lease_core.specs.declared.way.Way.{Way}
use Rattle.lease_core.specs.declared.way.Way.TheVariants as way
use Rattle.lease_core.specs.declared.borrowing.Loan.{Loan}

-- what a way of the code needs, in the model
abbrev pub way_of : Way → Needs
way_of way.Read = reading
way_of way.Write = writing

-- the borrow is noted, and the borrower gets the number of bytes that moved
abbrev pub lent_answered : Loan → ℕ → Turn → Turn
lent_answered x count t =
    t ⨾ noted (note.Borrow x.call (way_of x.way).borrow x.args.lease x.args.offset count) ⨾ goes_on_with x.borrower (0 ∷ count ∷ [])

-- the borrower's buffer, or the lender's bytes, lie in memory, and in RAM if the way writes them
abbrev pub IsBuffer : Way → Memory → ℕ → ℕ → Type 0
IsBuffer way.Read m a n = IsWithinRam m a n
IsBuffer way.Write m a n = IsWithin m a n

abbrev pub IsLeased : Way → Memory → ℕ → ℕ → Type 0
IsLeased way.Read m a n = IsWithin m a n
IsLeased way.Write m a n = IsWithinRam m a n

-- the call that a loan belongs to
pub record IsLoanOf (x : Loan) (k : Call) : Type 0 where
  pub lender : k.client.index ≡ x.lender
  pub number : k.number ≡ x.call

-- the entry from an address on, or the first byte of it that the lender may not read
abbrev pub IsEntryAt : Setup → State → ℕ → ℕ → Result LeaseEntry ℕ → Type 0
IsEntryAt g s lender base (Ok e) = (bad_byte g lender Read record { base = base; len = 12 } ≡ None) × (entry_at s.memory base ≡ e)
IsEntryAt g s lender base (Err at) = bad_byte g lender Read record { base = base; len = 12 } ≡ Some at

-- the same for the entry of a lease
abbrev pub IsEntry : Setup → State → ℕ → Call → ℕ → Result LeaseEntry ℕ → Type 0
IsEntry g s lender k lease (Ok e) = (bad_byte g lender Read (entry_range k lease) ≡ None) × (grant s k lease ≡ e)
IsEntry g s lender k lease (Err at) = bad_byte g lender Read (entry_range k lease) ≡ Some at

-- ## a borrow that went well leaves the entry of its lease kept

-- the borrower goes on and gets code 0
pub record WentWell (borrower : ℕ) (t : Turn) : Type 0 where
  pub ready : is_ready t.state borrower ≡ true
  pub code : register t.state borrower r4 ≡ 0

-- a turn writes none of n bytes from an address on
abbrev pub WritesNone : List Write → ℕ → ℕ → Type 0
WritesNone ws a n = (w : Write) → Contains ws w → (w.address < a) ⊎ (a + n ≤ w.address)

-- the entry of a lease of a call is kept for its client, as memory had it
abbrev pub IsHeldAfter : Kernel → State → Call → ℕ → Type 0
IsHeldAfter k s c lease = IsKeptFor (entries_of k) c.client.index (c.table + 12 * lease) (grant s c lease)

-- a borrow that went well, and whose writes are not in the entry of its lease, leaves the entry kept
abbrev pub KeepsEntry : Kernel → ℕ → State → Turn → List Write → ℕ → ℕ → Type 0
KeepsEntry k borrower s u writes lender lease =
    (c : Call) → taken_by s lender borrower ≡ Some c → WentWell borrower u → WritesNone writes (c.table + 12 * lease) 12 → IsHeldAfter k s c lease

-- so does a BORROW_READ or BORROW_WRITE
abbrev pub KeepsBorrowed : Setup → Needs → ℕ → Turn → Kernel → Type 0
KeepsBorrowed g way caller t k =
    let x = borrow_args (arguments t.state caller) in
    let u = borrowed g way caller t in
    KeepsEntry k caller t.state u u.writes (index_of x.lender.number) x.lease

-- and a BORROW_INFO, which writes nothing
abbrev pub KeepsInformed : Setup → ℕ → Turn → Kernel → Type 0
KeepsInformed g caller t k =
    let x = info_args (arguments t.state caller) in
    KeepsEntry k caller t.state (informed g caller t) [] (index_of x.lender.number) x.lease

-- ## the same by the steps of the code: which tests it passed, and where it writes

-- the lease is one of the call, and the lender may read its entry
pub record IsEntryRead (g : Setup) (lender : ℕ) (c : Call) (lease : ℕ) : Type 0 where
  pub listed : nat_le c.leases lease ≡ false
  pub readable : bad_byte g lender Read (entry_range c lease) ≡ None

-- no row refuses a BORROW_INFO of a lease: the lender may read its entry, and its range is valid
abbrev pub MayInform : Setup → ℕ → State → Call → ℕ → Type 0
MayInform g lender s c lease = IsEntryRead g lender c lease × (is_valid (lease_range (grant s c lease)) ≡ true)

-- the lender may lend this part of a lease
abbrev pub MayLend : Setup → Loan → Slice → Type 0
MayLend g x part = bad_byte g x.lender (way_of x.way).lender part ≡ None

-- no row refuses a borrow of a lease with this entry
pub record IsGranted (g : Setup) (x : Loan) (e : LeaseEntry) : Type 0 where
  pub valid : is_valid (lease_range e) ≡ true
  pub allowed : (bit_and e.attributes (way_of x.way).bit == 0) ≡ false
  pub inside : nat_lt e.len x.args.offset ≡ false
  pub buffer : is_valid (buffer_of x.args) ≡ true
  pub own : bad_byte g x.borrower (way_of x.way).own (buffer_of x.args) ≡ None
  pub lender : MayLend g x (part_of x.args e)

-- the address at which bytes are written when they move between the lease and the borrower's buffer
abbrev pub target : Way → ℕ → ℕ → ℕ
target way.Read leased own = own
target way.Write leased own = leased

-- none of n bytes from an address on is one of the entry that begins at another address
abbrev pub IsClear : ℕ → ℕ → ℕ → Type 0
IsClear base a n = (b : ℕ) → a ≤ b → b < a + n → (b < base) ⊎ (base + 12 ≤ b)

-- a loan that is granted and writes no byte of its lease's entry leaves the entry kept
abbrev pub HoldsGranted : Setup → Loan → Call → State → Kernel → Type 0
HoldsGranted g x c s k =
    let lease = x.args.lease in
    let e = grant s c lease in
    let part = part_of x.args e in
    IsGranted g x e → IsClear (c.table + 12 * lease) (target x.way part.base x.args.buffer_base) part.len → IsHeldAfter k s c lease

-- entries stay kept, except those that a loan of n bytes of the lease from an address on writes
abbrev pub StayKept : Kernel → Loan → ℕ → ℕ → Kernel → Type 0
StayKept old x leased n new =
    (i : ℕ) (y : KeptEntry) → kept_at (entries_of old) i ≡ Some y → IsClear y.base (target x.way leased x.args.buffer_base) n → kept_at (entries_of new) i ≡ Some y

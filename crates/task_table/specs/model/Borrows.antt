-- The rows of BORROW_READ, BORROW_WRITE and BORROW_INFO. (Hubris Reference: leases.)
use Rattle.std.specs.Prelude.{ℕ, ◌+◌, ◌-◌, ◌*◌, not, [], ◌∷◌, Option, None, Some, is_some, ◌==◌, nat_lt, nat_le, min, bit_and}
use Rattle.kernel_abi.specs.Arguments.{borrow_args, info_args}
use Rattle.kernel_abi.specs.Faults.{usage_number, access_number}
use Rattle.kernel_abi.specs.Ids.{index_of}
use Rattle.kernel_abi.specs.declared.Access.{Access}
use Rattle.kernel_abi.specs.declared.Access.TheVariants.{KernelRead, KernelWrite}
use Rattle.kernel_abi.specs.declared.Borrow.{Borrow}
use Rattle.kernel_abi.specs.declared.Borrow.TheVariants as borrow
use Rattle.kernel_abi.specs.declared.LeaseEntry.{LeaseEntry}
use Rattle.kernel_abi.specs.declared.Usage.TheVariants.{BadTaskIndex, InvalidSlice, OffsetOutOfRange, LeaseOutOfRange}
use Rattle.kernel_abi.specs.declared.Note.TheVariants as note
use Rattle.kernel_abi.specs.declared.arguments.BorrowArgs.{BorrowArgs}
use Rattle.region_check.specs.declared.Right.{Right}
use Rattle.region_check.specs.declared.Right.TheVariants.{Read, Write}
use Rattle.mem_banks.specs.Memory.{number_at}
use Rattle.task_table.specs.model.State.{Setup, State, Call, Slice, Own, Lease, Entry, Leased, Turn}
use Rattle.task_table.specs.model.Reading.{arguments, is_out, is_dead, dead_code_for, is_valid, bad_byte, taken_by}
use Rattle.task_table.specs.model.Effects.{◌⨾◌, noted, copied, looked}
use Rattle.task_table.specs.model.Rows.{first_row, misused, denied, goes_on_with}

-- ## an entry of the lease table of a call

abbrev pub entry_range : Call → ℕ → Slice
entry_range k lease = record { base = k.table + 12 * lease; len = 12 }

-- the entry as memory has it
unfoldable pub grant : State → Call → ℕ → LeaseEntry
grant s k lease =
    record {
      attributes = number_at s.memory (k.table + 12 * lease) 4;
      base = number_at s.memory (k.table + 12 * lease + 4) 4;
      len = number_at s.memory (k.table + 12 * lease + 8) 4;
    }

abbrev pub lease_range : LeaseEntry → Slice
lease_range e = record { base = e.base; len = e.len }

-- the turn reads the entry
abbrev pub entry_read : Call → ℕ → LeaseEntry → Turn → Turn
entry_read k lease e t =
    t ⨾ looked record { call = k.number; part = Entry e.attributes e.base e.len; base = k.table + 12 * lease; len = 12 }

-- ## the two ways in which bytes move

-- What a way needs: the right of the lender at the lease and that of the borrower at its buffer, for each of the
-- two the access that its fault reports, and the bit of the lease's attributes that allows it.
pub record Way : Type 0 where
  pub borrow : Borrow
  pub lender : Right
  pub lender_access : Access
  pub own : Right
  pub own_access : Access
  pub bit : ℕ

abbrev pub reading : Way
reading = record { borrow = borrow.Read; lender = Read; lender_access = KernelRead; own = Write; own_access = KernelWrite; bit = 1 }

abbrev pub writing : Way
writing = record { borrow = borrow.Write; lender = Write; lender_access = KernelWrite; own = Read; own_access = KernelRead; bit = 2 }

-- n bytes move between the lease and the borrower's buffer
abbrev pub moved : Borrow → Call → ℕ → ℕ → ℕ → Turn → Turn
moved borrow.Read k leased own n t =
    t ⨾ looked record { call = k.number; part = Leased; base = leased; len = n } ⨾ copied Own leased own n
moved borrow.Write k leased own n t = t ⨾ copied (Lease k.number) own leased n
moved borrow.Info k leased own n t = t

-- ## the rows

-- the code of a lender that has no such lease for the borrower
abbrev pub no_lease : ℕ
no_lease = 1

-- the borrower gets a code and the count 0, since nothing moved
abbrev pub refused : ℕ → ℕ → Turn → Turn
refused c code t = t ⨾ goes_on_with c (code ∷ 0 ∷ [])

abbrev pub buffer_of : BorrowArgs → Slice
buffer_of x = record { base = x.buffer_base; len = x.buffer_length }

-- the bytes of the lease from the offset on, as many as both the lease and the buffer have
abbrev pub part_of : BorrowArgs → LeaseEntry → Slice
part_of x e = record { base = e.base + x.offset; len = min x.buffer_length (e.len - x.offset) }

abbrev pub lent : Setup → Way → ℕ → BorrowArgs → Call → Slice → Turn → Turn
lent g way c x k part t =
    let bad = bad_byte g k.client.index way.lender part in
    first_row (
    (is_some bad, t ⨾ denied g k.client.index (access_number way.lender_access) bad ⨾ refused c no_lease)
    ∷ [])
    (t
    ⨾ moved way.borrow k part.base x.buffer_base part.len
    ⨾ noted (note.Borrow k.number way.borrow x.lease x.offset part.len)
    ⨾ goes_on_with c (0 ∷ part.len ∷ []))

-- the rows that check the borrower's buffer
abbrev pub buffered : Setup → Way → ℕ → BorrowArgs → Call → LeaseEntry → Turn → Turn
buffered g way c x k e t =
    let buffer = buffer_of x in
    first_row (
    (not (is_valid buffer), t ⨾ misused g c (usage_number InvalidSlice))
    ∷ (is_some (bad_byte g c way.own buffer), t ⨾ denied g c (access_number way.own_access) (bad_byte g c way.own buffer))
    ∷ []) (t ⨾ lent g way c x k (part_of x e))

-- the rows that check the lease, which come first
abbrev pub granted : Setup → Way → ℕ → BorrowArgs → Call → LeaseEntry → Turn → Turn
granted g way c x k e t =
    first_row (
    (not (is_valid (lease_range e)), t ⨾ misused g k.client.index (usage_number InvalidSlice) ⨾ refused c no_lease)
    ∷ (bit_and e.attributes way.bit == 0, t ⨾ refused c no_lease)
    ∷ (nat_lt e.len x.offset, t ⨾ misused g c (usage_number OffsetOutOfRange))
    ∷ []) (t ⨾ buffered g way c x k e)

abbrev pub borrowed_by : Setup → Way → ℕ → BorrowArgs → Option Call → Turn → Turn
borrowed_by g way c x None t = t ⨾ refused c no_lease
borrowed_by g way c x (Some k) t =
    let bad = bad_byte g k.client.index Read (entry_range k x.lease) in
    let e = grant t.state k x.lease in
    first_row (
    (nat_le k.leases x.lease, t ⨾ misused g c (usage_number LeaseOutOfRange))
    ∷ (is_some bad, t ⨾ denied g k.client.index (access_number KernelRead) bad ⨾ refused c no_lease)
    ∷ []) (t ⨾ entry_read k x.lease e ⨾ granted g way c x k e)

-- r4 lender, r5 lease, r6 offset, r7 and r8 buffer
unfoldable pub borrowed : Setup → Way → ℕ → Turn → Turn
borrowed g way c t =
    let s = t.state in
    let x = borrow_args (arguments s c) in
    let id = x.lender.number in
    first_row (
    (is_out s id, t ⨾ misused g c (usage_number BadTaskIndex))
    ∷ (is_dead s id, t ⨾ refused c (dead_code_for s id))
    ∷ []) (t ⨾ borrowed_by g way c x (taken_by s (index_of id) c))

-- ## BORROW_INFO: r4 lender, r5 lease

-- the borrower gets a code, and nothing of the lease
abbrev pub uninformed : ℕ → ℕ → Turn → Turn
uninformed c code t = t ⨾ goes_on_with c (code ∷ 0 ∷ 0 ∷ [])

abbrev pub grant_answered : Setup → ℕ → ℕ → Call → LeaseEntry → Turn → Turn
grant_answered g c lease k e t =
    first_row (
    (not (is_valid (lease_range e)), t ⨾ misused g k.client.index (usage_number InvalidSlice) ⨾ uninformed c no_lease)
    ∷ []) (t ⨾ noted (note.Borrow k.number borrow.Info lease 0 0) ⨾ goes_on_with c (0 ∷ bit_and e.attributes 3 ∷ e.len ∷ []))

abbrev pub informed_by : Setup → ℕ → ℕ → Option Call → Turn → Turn
informed_by g c lease None t = t ⨾ uninformed c no_lease
informed_by g c lease (Some k) t =
    let bad = bad_byte g k.client.index Read (entry_range k lease) in
    let e = grant t.state k lease in
    first_row (
    (nat_le k.leases lease, t ⨾ misused g c (usage_number LeaseOutOfRange))
    ∷ (is_some bad, t ⨾ denied g k.client.index (access_number KernelRead) bad ⨾ uninformed c no_lease)
    ∷ []) (t ⨾ entry_read k lease e ⨾ grant_answered g c lease k e)

unfoldable pub informed : Setup → ℕ → Turn → Turn
informed g c t =
    let s = t.state in
    let x = info_args (arguments s c) in
    let id = x.lender.number in
    first_row (
    (is_out s id, t ⨾ misused g c (usage_number BadTaskIndex))
    ∷ (is_dead s id, t ⨾ uninformed c (dead_code_for s id))
    ∷ []) (t ⨾ informed_by g c x.lease (taken_by s (index_of id) c))

-- Where borrowed bytes lie, and what a move of no bytes does.
use Rattle.std.proofs.Common.{◌≡◌, ◌+◌, ◌-◌, ◌*◌, ◌^◌, ◌≤◌, ℕ, Bool, true, false, cond, [], take, drop, None, Some, refl, sym, ◌∙◌, ap, leb}
use Rattle.std.specs.Prelude.{Result, Ok, Err}
use Rattle.kernel_abi.specs.declared.LeaseEntry.{LeaseEntry}
use Rattle.region_check.specs.Rights.{first_bad}
use Rattle.region_check.specs.declared.Right.{Right}
use Rattle.region_check.specs.declared.Right.TheVariants.{Read}
use Rattle.mem_banks.specs.Memory.{Memory, bytes_at, with_bytes, copied as copied_memory}
use Rattle.mem_banks.proofs.Copies.{with_bytes_none}
use Rattle.task_table.specs.model.Placed.{ArePlaced}
use Rattle.task_table.specs.declared.slot.Slice.{Slice}
use Rattle.task_table.specs.declared.slot.OpenCall.{OpenCall}
use Rattle.task_table.specs.model.State.{Setup, State, Birth, Call, Read as Look, Leased, Own, Lease, Ground, Turn}
use Rattle.task_table.specs.model.Reading.{bad_byte, taken_by}
use Rattle.task_table.specs.model.Effects.{looked, copied}
use Rattle.task_table.specs.model.Borrows.{moved, grant}
use Rattle.task_table.specs.kept.Holds.{Holds, kept_of, kept_call}
use Rattle.task_table.specs.model.Sane.{Sane}
use Rattle.std.proofs.lemmas.Bool.{leb-true}
use Rattle.task_table.proofs.model.Clients.{found_call, taken_call}
use Rattle.task_table.specs.declared.kernel.Kernel.{Kernel}
use Rattle.task_table.proofs.kept.Messages.{holds_looked, holds_copied}
use Rattle.task_table.proofs.model.Ranges.{within-good, within_ram-good}
use Rattle.lease_core.specs.Loans.{way_of, IsBuffer, IsLeased, IsEntry, IsEntryAt}
use Rattle.lease_core.specs.declared.way.Way.{Way}
use Rattle.lease_core.specs.declared.way.Way.TheVariants as way

-- ## bytes that may be copied lie in memory

pub leased_good : (w : Way) (g : Setup) (m : Memory) (i : ℕ) (r : Slice) → ArePlaced g m → bad_byte g i (way_of w).lender r ≡ None → IsLeased w m r.base r.len
leased_good way.Read g m i r placed good = within-good g m i Read r placed good
leased_good way.Write g m i r placed good = within_ram-good g m i r placed good

pub buffer_good : (w : Way) (g : Setup) (m : Memory) (i : ℕ) (r : Slice) → ArePlaced g m → bad_byte g i (way_of w).own r ≡ None → IsBuffer w m r.base r.len
buffer_good way.Read g m i r placed good = within_ram-good g m i r placed good
buffer_good way.Write g m i r placed good = within-good g m i Read r placed good

-- ## no bytes

pub none_bad : (g : Setup) (i : ℕ) (right : Right) (base : ℕ) → bad_byte g i right record { base = base; len = 0 } ≡ None
unfolding bad_byte first_bad
none_bad g i right base = refl

no_bytes : (m : Memory) (a : ℕ) → bytes_at m a 0 ≡ []
unfolding bytes_at
no_bytes m a = go (leb 0x20000000 a) (leb 0x08000000 a)
  where
    go : (b d : Bool) → cond b (take 0 (drop (a - 0x20000000) m.ram)) (cond d (take 0 (drop (a - 0x08000000) m.flash)) []) ≡ []
    go true d = refl
    go false true = refl
    go false false = refl

with_none : (m : Memory) (a : ℕ) → with_bytes m a [] ≡ m
with_none m a = sym (with_bytes_none m a [] refl)

copied_none : (m : Memory) (from to : ℕ) → m ≡ copied_memory m from to 0
unfolding copied_memory
copied_none m from to = sym (ap (with_bytes m to) (no_bytes m from) ∙ with_none m to)

holds_none : (g : Setup) (k : Kernel) (t : Turn) (on : Ground) (from to : ℕ) → Holds g k t → Holds g k (copied on from to 0 t)
holds_none g k t on from to h = let kept = kept_of k in holds_copied g kept t on from to 0 kept.setup kept.memory h refl (copied_none kept.memory from to)

pub moved_none : (w : Way) (g : Setup) (k : Kernel) (t : Turn) (c : Call) (leased own : ℕ) → Holds g k t → Holds g k (moved (way_of w).borrow c leased own 0 t)
moved_none way.Read g k t c leased own h = let look : Look = record { call = c.number; part = Leased; base = leased; len = 0 } in holds_none g k (looked look t) Own leased own (holds_looked g (kept_of k) t look h)
moved_none way.Write g k t c leased own h = holds_none g k t (Lease c.number) own leased h

-- ## the table of a taken call

-- the table ends inside the address space
pub table_fits : (g : Setup) (s : State) (i j : ℕ) (k : Call) (call : OpenCall) → Sane g s → taken_by s i j ≡ Some k → kept_call k ≡ call → call.table + 12 * call.leases ≤ 2 ^ 32
table_fits g s i j k call sane taken same =
    let fit = sane.steady.calls.fit k (found_call s i k (taken_call g s i j k sane taken).call) in
    let ends : k.table + 12 * k.leases ≤ 2 ^ 32 = leb-true _ _ fit.valid.2 in
    let table : k.table ≡ call.table = ap (λ (x : OpenCall). x.table) same in
    let leases : k.leases ≡ call.leases = ap (λ (x : OpenCall). x.leases) same in
    rw (← table, ← leases) ends

-- and the call is one of the lender
pub of_lender : (g : Setup) (s : State) (i j : ℕ) (k : Call) → Sane g s → taken_by s i j ≡ Some k → k.client.index ≡ i
of_lender g s i j k sane taken = ap (λ (b : Birth). b.index) (taken_call g s i j k sane taken).client

-- ## an entry

-- the entry by the address at which it begins
pub entry_from : (g : Setup) (s : State) (i : ℕ) (k : Call) (table lease : ℕ) (r : Result LeaseEntry ℕ) → k.table ≡ table → IsEntryAt g s i (table + 12 * lease) r → IsEntry g s i k lease r
unfolding grant
entry_from g s i k table lease (Ok e) same h = rw (← same) at h
entry_from g s i k table lease (Err at) same h = rw (← same) at h

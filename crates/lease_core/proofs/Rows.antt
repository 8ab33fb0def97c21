-- The rows of the borrows, one by one.
use Rattle.std.proofs.Common.{◌≡◌, ℕ, true, false, [], ◌∷◌, None, Some, refl, ◌∙◌, ap, leb, bit_and, cond}
use Rattle.kernel_abi.specs.Faults.{access_number}
use Rattle.kernel_abi.specs.declared.LeaseEntry.{LeaseEntry}
use Rattle.kernel_abi.specs.declared.Note.TheVariants as note
use Rattle.kernel_abi.specs.declared.Borrow.TheVariants as borrow
use Rattle.kernel_abi.specs.declared.arguments.BorrowArgs.{BorrowArgs}
use Rattle.kernel_abi.specs.declared.arguments.InfoArgs.{InfoArgs}
use Rattle.kernel_abi.specs.Ids.{index_of}
use Rattle.region_check.specs.declared.Right.TheVariants.{Read}
use Rattle.task_table.specs.declared.slot.Slice.{Slice}
use Rattle.task_table.specs.model.State.{Setup, Call, Turn}
use Rattle.task_table.specs.model.Reading.{is_out, is_dead, dead_code_for, is_valid, bad_byte, taken_by}
use Rattle.task_table.specs.kept.Holds.{Holds}
use Rattle.task_table.specs.declared.kernel.Kernel.{Kernel}
use Rattle.task_table.specs.model.Effects.{noted}
use Rattle.task_table.specs.model.Rows.{misused, denied, goes_on_with}
use Rattle.task_table.specs.model.Borrows.{Way, entry_range, grant, lease_range, entry_read, moved, no_lease, refused, uninformed, lent, granted, borrowed_by, grant_answered, informed_by}

-- ## the lender's bytes

pub lent_bad : (g : Setup) (way : Way) (c : ℕ) (x : BorrowArgs) (k : Call) (i at : ℕ) (part : Slice) (t : Turn) → k.client.index ≡ i → bad_byte g i way.lender part ≡ Some at → lent g way c x k part t ≡ refused c no_lease (denied g i (access_number way.lender_access) (Some at) t)
lent_bad g way c x k i at part t client bad =
    let here : bad_byte g k.client.index way.lender part ≡ Some at = ap (λ j. bad_byte g j way.lender part) client ∙ bad in
    rw (← client, here) refl

pub lent_good : (g : Setup) (way : Way) (c : ℕ) (x : BorrowArgs) (k : Call) (i n : ℕ) (part : Slice) (t : Turn) → k.client.index ≡ i → k.number ≡ n → bad_byte g i way.lender part ≡ None → lent g way c x k part t ≡ goes_on_with c (0 ∷ part.len ∷ []) (noted (note.Borrow n way.borrow x.lease x.offset part.len) (moved way.borrow k part.base x.buffer_base part.len t))
lent_good g way c x k i n part t client number good =
    let here : bad_byte g k.client.index way.lender part ≡ None = ap (λ j. bad_byte g j way.lender part) client ∙ good in
    rw (← number, here) refl

-- ## an entry that was read

pub granted_invalid : (g : Setup) (way : Way) (c : ℕ) (x : BorrowArgs) (k : Call) (i : ℕ) (e : LeaseEntry) (t : Turn) → k.client.index ≡ i → is_valid (lease_range e) ≡ false → granted g way c x k e t ≡ refused c no_lease (misused g i 3 t)
granted_invalid g way c x k i e t client invalid = rw (← client, invalid) refl

-- ## the entry

pub entry_bad : (g : Setup) (way : Way) (c : ℕ) (x : BorrowArgs) (k : Call) (i at : ℕ) (t : Turn) → k.client.index ≡ i → leb k.leases x.lease ≡ false → bad_byte g i Read (entry_range k x.lease) ≡ Some at → borrowed_by g way c x (Some k) t ≡ refused c no_lease (denied g i 2 (Some at) t)
entry_bad g way c x k i at t client listed bad =
    let here : bad_byte g k.client.index Read (entry_range k x.lease) ≡ Some at = ap (λ j. bad_byte g j Read (entry_range k x.lease)) client ∙ bad in
    rw (← client, listed, here) refl

pub entry_good : (g : Setup) (way : Way) (c : ℕ) (x : BorrowArgs) (k : Call) (i : ℕ) (e : LeaseEntry) (t : Turn) → k.client.index ≡ i → leb k.leases x.lease ≡ false → bad_byte g i Read (entry_range k x.lease) ≡ None → grant t.state k x.lease ≡ e → borrowed_by g way c x (Some k) t ≡ granted g way c x k e (entry_read k x.lease e t)
entry_good g way c x k i e t client listed good entry =
    let here : bad_byte g k.client.index Read (entry_range k x.lease) ≡ None = ap (λ j. bad_byte g j Read (entry_range k x.lease)) client ∙ good in
    rw (listed, here, ← entry) refl

-- ## the same for BORROW_INFO

pub answered_invalid : (g : Setup) (c lease : ℕ) (k : Call) (i : ℕ) (e : LeaseEntry) (t : Turn) → k.client.index ≡ i → is_valid (lease_range e) ≡ false → grant_answered g c lease k e t ≡ uninformed c no_lease (misused g i 3 t)
answered_invalid g c lease k i e t client invalid = rw (← client, invalid) refl

pub answered_valid : (g : Setup) (c lease : ℕ) (k : Call) (n : ℕ) (e : LeaseEntry) (t : Turn) → k.number ≡ n → is_valid (lease_range e) ≡ true → grant_answered g c lease k e t ≡ goes_on_with c (0 ∷ bit_and e.attributes 3 ∷ e.len ∷ []) (noted (note.Borrow n borrow.Info lease 0 0) t)
answered_valid g c lease k n e t number valid = rw (← number, valid) refl

pub answered_bad : (g : Setup) (c lease : ℕ) (k : Call) (i at : ℕ) (t : Turn) → k.client.index ≡ i → leb k.leases lease ≡ false → bad_byte g i Read (entry_range k lease) ≡ Some at → informed_by g c lease (Some k) t ≡ uninformed c no_lease (denied g i 2 (Some at) t)
answered_bad g c lease k i at t client listed bad =
    let here : bad_byte g k.client.index Read (entry_range k lease) ≡ Some at = ap (λ j. bad_byte g j Read (entry_range k lease)) client ∙ bad in
    rw (← client, listed, here) refl

pub answered_good : (g : Setup) (c lease : ℕ) (k : Call) (i : ℕ) (e : LeaseEntry) (t : Turn) → k.client.index ≡ i → leb k.leases lease ≡ false → bad_byte g i Read (entry_range k lease) ≡ None → grant t.state k lease ≡ e → informed_by g c lease (Some k) t ≡ grant_answered g c lease k e (entry_read k lease e t)
answered_good g c lease k i e t client listed good entry =
    let here : bad_byte g k.client.index Read (entry_range k lease) ≡ None = ap (λ j. bad_byte g j Read (entry_range k lease)) client ∙ good in
    rw (listed, here, ← entry) refl

-- ## the whole system call, by its arguments

abbrev pub Borrowed : Setup → Kernel → Way → ℕ → Turn → BorrowArgs → Type 0
Borrowed g k way c t x =
    let id = x.lender.number in
    Holds g k (cond (is_out t.state id) (misused g c 2 t) (cond (is_dead t.state id) (refused c (dead_code_for t.state id) t) (borrowed_by g way c x (taken_by t.state (index_of id) c) t)))

abbrev pub Informed : Setup → Kernel → ℕ → Turn → InfoArgs → Type 0
Informed g k c t x =
    let id = x.lender.number in
    Holds g k (cond (is_out t.state id) (misused g c 2 t) (cond (is_dead t.state id) (uninformed c (dead_code_for t.state id) t) (informed_by g c x.lease (taken_by t.state (index_of id) c) t)))

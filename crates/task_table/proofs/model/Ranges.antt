-- Bytes that a task may use lie in memory.
use Rattle.std.proofs.Common.{◌≡◌, ◌+◌, ◌<◌, ◌≤◌, ◌⊎◌, inl, inr, ℕ, zero, suc, true, false, not, ◌&&◌, length, None, refl, arith, leb, ltb}
use Rattle.std.proofs.lemmas.Bool.{leb-true, ltb-true, and_parts, not-true}
use Rattle.std.proofs.lemmas.List.Folds.{Any-from_list_any}
use Rattle.region_check.specs.declared.Region.{Region}
use Rattle.region_check.specs.declared.Right.{Right}
use Rattle.region_check.specs.declared.Right.TheVariants.{Read, Write}
use Rattle.region_check.specs.Rights.{may_copy, gives_copy, is_inside, has_right}
use Rattle.region_check.proofs.FirstBad.{first_bad_none}
use Rattle.mem_banks.specs.Memory.{Memory, IsWithin, IsWithinRam}
use Rattle.task_table.specs.model.State.{Setup, Slice}
use Rattle.task_table.specs.model.Reading.{setup_at, bad_byte}
use Rattle.task_table.specs.model.Placed.{ArePlaced}
use Rattle.task_table.specs.model.Grounds.{Lies, MayRead, MayWrite}

-- what a region gives a copy
record Gives (right : Right) (a : ℕ) (r : Region) : Type 0 where
  from : r.base ≤ a
  below : a < r.base + r.size
  has : has_right r.rights right ≡ true
  no_device : r.rights.device ≡ false

gives_is : (right : Right) (a : ℕ) (r : Region) → gives_copy right a r ≡ true → Gives right a r
gives_is right a r h =
    let all = and_parts (is_inside r a && has_right r.rights right) (not r.rights.device) h in
    let two = and_parts (is_inside r a) (has_right r.rights right) all.0 in
    let inside = and_parts (leb r.base a) (ltb a (r.base + r.size)) two.0 in
    record { from = leb-true _ _ inside.0; below = ltb-true _ _ inside.1; has = two.1; no_device = not-true _ all.1 }

ram_byte : (m : Memory) (base size a : ℕ) → IsWithinRam m base size → base ≤ a → a < base + size → IsWithinRam m a 1
ram_byte m base size a w from below = elim w [ inl none ↦ absurd (omega arith) | inr x ↦ inr (omega arith, omega arith) ]

a_byte : (m : Memory) (base size a : ℕ) → IsWithin m base size → base ≤ a → a < base + size → IsWithin m a 1
a_byte m base size a w from below = elim w [ inl r ↦ inl (ram_byte m base size a r from below) | inr x ↦ inr (omega arith, omega arith) ]

-- a byte of a region that is not a device lies in flash or in RAM
pub within-given : (g : Setup) (m : Memory) (i : ℕ) (right : Right) (a : ℕ) → ArePlaced g m → may_copy (setup_at g i).regions right a ≡ true → IsWithin m a 1
within-given g m i right a placed h =
    let found = Any-from_list_any (gives_copy right a) (setup_at g i).regions h in
    let r = found.1 in
    let gives = gives_is right a r found.4 in
    a_byte m r.base r.size a (placed.within i r (found.0, found.2, found.3) gives.no_device) gives.from gives.below

-- and in RAM where it may be written
pub within_ram-given : (g : Setup) (m : Memory) (i a : ℕ) → ArePlaced g m → may_copy (setup_at g i).regions Write a ≡ true → IsWithinRam m a 1
within_ram-given g m i a placed h =
    let found = Any-from_list_any (gives_copy Write a) (setup_at g i).regions h in
    let r = found.1 in
    let gives = gives_is Write a r found.4 in
    ram_byte m r.base r.size a (placed.writable i r (found.0, found.2, found.3) gives.no_device gives.has) gives.from gives.below

pub one_in_ram : (m : Memory) (a : ℕ) → IsWithinRam m a 1 → (0x20000000 ≤ a) × (a < 0x20000000 + length m.ram)
one_in_ram m a w = elim w [ inl none ↦ absurd (omega arith) | inr x ↦ (x.0, omega arith) ]

one_in : (m : Memory) (a : ℕ) → IsWithin m a 1 → ((0x20000000 ≤ a) × (a < 0x20000000 + length m.ram)) ⊎ ((0x08000000 ≤ a) × (a < 0x08000000 + length m.flash))
one_in m a w = elim w [ inl r ↦ inl (one_in_ram m a r) | inr x ↦ inr (x.0, omega arith) ]

-- consecutive bytes that all lie in memory lie in one of the two
pub within-bytes : (m : Memory) (base n : ℕ) → length m.flash ≤ 1048576 → ((a : ℕ) → base ≤ a → a < base + n → IsWithin m a 1) → IsWithin m base n
within-bytes m base zero small h = inl (inl refl)
within-bytes m base (suc n) small h =
    let last = one_in m (base + n) (h (base + n) (omega arith) (omega arith)) in
    elim (one_in m base (h base (omega arith) (omega arith))) [
      | inl r ↦ elim last [ inl x ↦ inl (inr (r.0, omega arith)) | inr x ↦ absurd (omega arith) ]
      | inr f ↦ elim last [
        | inl x ↦ elim (one_in m 0x10000000 (h 0x10000000 (omega arith) (omega arith))) [ inl y ↦ absurd (omega arith) | inr y ↦ absurd (omega arith) ]
        | inr x ↦ inr (f.0, omega arith)
      ]
    ]

pub within_ram-bytes : (m : Memory) (base n : ℕ) → ((a : ℕ) → base ≤ a → a < base + n → IsWithinRam m a 1) → IsWithinRam m base n
within_ram-bytes m base zero h = inl refl
within_ram-bytes m base (suc n) h =
    let first = one_in_ram m base (h base (omega arith) (omega arith)) in
    let last = one_in_ram m (base + n) (h (base + n) (omega arith) (omega arith)) in
    inr (first.0, omega arith)

-- a range without a bad byte lies in memory, and in RAM where it may be written
pub within-good : (g : Setup) (m : Memory) (i : ℕ) (right : Right) (r : Slice) → ArePlaced g m → bad_byte g i right r ≡ None → IsWithin m r.base r.len
unfolding bad_byte
within-good g m i right r placed h = within-bytes m r.base r.len placed.flash (λ a from below. within-given g m i right a placed (first_bad_none (setup_at g i).regions right r.base r.len a h from below))

pub within_ram-good : (g : Setup) (m : Memory) (i : ℕ) (r : Slice) → ArePlaced g m → bad_byte g i Write r ≡ None → IsWithinRam m r.base r.len
unfolding bad_byte
within_ram-good g m i r placed h = within_ram-bytes m r.base r.len (λ a from below. within_ram-given g m i a placed (first_bad_none (setup_at g i).regions Write r.base r.len a h from below))

-- the front of a range in RAM
pub within_ram-front : (m : Memory) (a n k : ℕ) → IsWithinRam m a n → k ≤ n → IsWithinRam m a k
within_ram-front m a n k h le = elim h [ inl none ↦ inl (omega arith) | inr x ↦ inr (x.0, omega arith) ]

-- each byte of a range without a bad byte may be written
pub may-write : (g : Setup) (i : ℕ) (r : Slice) (a : ℕ) → bad_byte g i Write r ≡ None → Lies r a → MayWrite g i a
unfolding bad_byte
may-write g i r a good lies = first_bad_none (setup_at g i).regions Write r.base r.len a good lies.0 lies.1

-- and each byte of one without a bad byte for reading may be read
pub may-read : (g : Setup) (i : ℕ) (r : Slice) (a : ℕ) → bad_byte g i Read r ≡ None → Lies r a → MayRead g i a
unfolding bad_byte
may-read g i r a good lies = first_bad_none (setup_at g i).regions Read r.base r.len a good lies.0 lies.1

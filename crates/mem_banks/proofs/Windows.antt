-- The bytes of a region's bank are those that the memory has there.
use Rattle.std.proofs.Common.{◌≡◌, ◌+◌, ◌-◌, ◌≤◌, ◌<◌, inl, inr, ℕ, List, length, take, drop, refl, ap, arith, length-take, length-drop}
use Rattle.std.proofs.lemmas.Bool.{cases_lt}
use Rattle.std.proofs.lemmas.List.{length-append, same_lists, places}
use Rattle.mem_banks.specs.Memory.{Memory, bytes_at, with_bytes, number_of, number_at, pasted}
use Rattle.mem_banks.specs.Windows.{IsInRam, IsInMemory, AreApart}
use Rattle.mem_banks.proofs.Copies.{with_bytes_ram, bytes_ram, bytes_flash, bytes_none, length-pasted, length_part}
use Rattle.mem_banks.proofs.Pieces.{Side, ram_side, flash_side, read_apart}

-- where a region lies
side_of_region : (m : Memory) (base len : ℕ) → IsInMemory m (base, len) → Side m base len
side_of_region m base len (inl x) = ram_side x.0 x.1
side_of_region m base len (inr x) = flash_side x.0 x.1 (omega (arith, x.2))

-- a part of a part
part_of_part : (xs : List ℕ) (p q n len k : ℕ) → p ≡ q + k → k + n ≤ len → q + len ≤ length xs → take n (drop k (take len (drop q xs))) ≡ take n (drop p xs)
part_of_part xs p q n len k e fits inside = same_lists _ _ (simp (length-take, length-drop) (omega arith)) (λ i d u. grind (arith, places))

-- bytes, and a number, inside a region
pub bytes_inside : (m : Memory) (base len a n : ℕ) → IsInMemory m (base, len) → base ≤ a → a + n ≤ base + len → take n (drop (a - base) (bytes_at m base len)) ≡ bytes_at m a n
bytes_inside m base len a n (inl x) low high =
    rw (bytes_ram m base len x.0, bytes_ram m a n (omega (arith, x.0))) (part_of_part m.ram (a - 0x20000000) (base - 0x20000000) n len (a - base) (omega (arith, x.0)) (omega arith) (omega (arith, x.0, x.1)))
bytes_inside m base len a n (inr x) low high =
    rw (bytes_flash m base len (omega (arith, x.2)) x.0, bytes_flash m a n (omega (arith, x.2)) (omega (arith, x.0))) (part_of_part m.flash (a - 0x08000000) (base - 0x08000000) n len (a - base) (omega (arith, x.0)) (omega arith) (omega (arith, x.0, x.1)))

pub number_inside : (m : Memory) (base len a n : ℕ) → IsInMemory m (base, len) → base ≤ a → a + n ≤ base + len → number_of (take n (drop (a - base) (bytes_at m base len))) ≡ number_at m a n
number_inside m base len a n there low high = ap number_of (bytes_inside m base len a n there low high)

-- a region has as many bytes as its size
pub region_length : (m : Memory) (base len : ℕ) → IsInMemory m (base, len) → length (bytes_at m base len) ≡ len
region_length m base len (inl x) = rw (bytes_ram m base len x.0) (length_part m.ram (base - 0x20000000) len (omega (arith, x.0, x.1)))
region_length m base len (inr x) = rw (bytes_flash m base len (omega (arith, x.2)) x.0) (length_part m.flash (base - 0x08000000) len (omega (arith, x.0, x.1)))

-- ## bytes written over a region of the RAM
paste_whole : (xs ys : List ℕ) (p : ℕ) → p + length ys ≤ length xs → take (length ys) (drop p (pasted xs p ys)) ≡ ys
paste_whole xs ys p fits = same_lists _ _ (simp (length-append, length-take, length-drop) (omega arith)) (λ i d u. grind (arith, places))

paste_inside : (xs ys zs : List ℕ) (p q k : ℕ) → q ≡ p + k → k + length zs ≤ length ys → p + length ys ≤ length xs → pasted (pasted xs p ys) q zs ≡ pasted xs p (pasted ys k zs)
paste_inside xs ys zs p q k e small fits = same_lists _ _ (simp (length-append, length-take, length-drop) (omega arith)) (λ i d u. grind (arith, places))

paste_same : (xs : List ℕ) (p n : ℕ) → p + n ≤ length xs → pasted xs p (take n (drop p xs)) ≡ xs
paste_same xs p n fits = same_lists _ _ (simp (length-append, length-take, length-drop) (omega arith)) (λ i d u. grind (arith, places))

-- they stand there
pub region_written : (m : Memory) (base : ℕ) (xs : List ℕ) → IsInRam m (base, length xs) → bytes_at (with_bytes m base xs) base (length xs) ≡ xs
region_written m base xs x = rw (with_bytes_ram m base xs x.0, bytes_ram record { flash = m.flash; ram = pasted m.ram (base - 0x20000000) xs } base (length xs) x.0) (paste_whole m.ram xs (base - 0x20000000) (omega (arith, x.0, x.1)))

-- a store inside them is a store in the bytes
pub written_inside : (m : Memory) (base a : ℕ) (xs ys : List ℕ) → IsInRam m (base, length xs) → base ≤ a → a + length ys ≤ base + length xs → with_bytes (with_bytes m base xs) a ys ≡ with_bytes m base (pasted xs (a - base) ys)
written_inside m base a xs ys x low high =
    rw (with_bytes_ram m base xs x.0, with_bytes_ram m base (pasted xs (a - base) ys) x.0, with_bytes_ram record { flash = m.flash; ram = pasted m.ram (base - 0x20000000) xs } a ys (omega (arith, x.0)))
    (ap (λ q. record { flash = m.flash; ram = q }) (paste_inside m.ram xs ys (base - 0x20000000) (a - 0x20000000) (a - base) (omega (arith, x.0)) (omega arith) (omega (arith, x.0, x.1))))

-- its own bytes change nothing
pub written_same : (m : Memory) (base len : ℕ) → IsInRam m (base, len) → with_bytes m base (bytes_at m base len) ≡ m
written_same m base len x =
    rw (with_bytes_ram m base (bytes_at m base len) x.0, bytes_ram m base len x.0)
    (ap (λ q. record { flash = m.flash; ram = q }) (paste_same m.ram (base - 0x20000000) len (omega (arith, x.0, x.1))))

-- what stands below the RAM is as before, and so is what stands beside the region
flash_same : (m : Memory) (base a n : ℕ) (xs : List ℕ) → a < 0x20000000 → bytes_at record { flash = m.flash; ram = pasted m.ram (base - 0x20000000) xs } a n ≡ bytes_at m a n
flash_same m base a n xs low = elim (cases_lt a 0x08000000) [
  | inl below ↦ rw (bytes_none m a n below, bytes_none record { flash = m.flash; ram = pasted m.ram (base - 0x20000000) xs } a n below) refl
  | inr above ↦ rw (bytes_flash m a n low above, bytes_flash record { flash = m.flash; ram = pasted m.ram (base - 0x20000000) xs } a n low above) refl
]

pub bytes_below : (m : Memory) (base a n : ℕ) (xs : List ℕ) → 0x20000000 ≤ base → a < 0x20000000 → bytes_at (with_bytes m base xs) a n ≡ bytes_at m a n
bytes_below m base a n xs ram low = rw (with_bytes_ram m base xs ram) (flash_same m base a n xs low)

pub number_below : (m : Memory) (base a n : ℕ) (xs : List ℕ) → 0x20000000 ≤ base → a < 0x20000000 → number_at (with_bytes m base xs) a n ≡ number_at m a n
number_below m base a n xs ram low = ap number_of (bytes_below m base a n xs ram low)

pub bytes_beside : (m : Memory) (base a n : ℕ) (xs : List ℕ) → IsInRam m (base, length xs) → IsInMemory m (a, n) → AreApart (a, n) (base, length xs) → bytes_at (with_bytes m base xs) a n ≡ bytes_at m a n
bytes_beside m base a n xs x there apart = read_apart m base a n xs (ram_side x.0 x.1) (side_of_region m a n there) apart

-- flash and RAM are as long as before
pub same_flash_length : (m : Memory) (base : ℕ) (xs : List ℕ) → 0x20000000 ≤ base → length (with_bytes m base xs).flash ≡ length m.flash
same_flash_length m base xs ram = rw (with_bytes_ram m base xs ram) refl

pub same_ram_length : (m : Memory) (base : ℕ) (xs : List ℕ) → IsInRam m (base, length xs) → length (with_bytes m base xs).ram ≡ length m.ram
same_ram_length m base xs x = rw (with_bytes_ram m base xs x.0) (length-pasted m.ram (base - 0x20000000) xs (omega (arith, x.0, x.1)))

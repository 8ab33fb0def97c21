-- Memory as a map from addresses to bytes: flash from 0x08000000 and RAM from 0x20000000.
-- (Scope of the profile: docs/FORMATS.md, Image; the addresses are those of a Cortex-M part.)
use Rattle.std.specs.Prelude.{Bool, false, ◌&&◌, ℕ, ◌+◌, ◌-◌, ◌*◌, ◌<◌, ◌≤◌, ◌⊎◌, ◌≡◌, List, [], ◌∷◌, ◌++◌, length, take, drop, Option, None, slice_get, if◌then◌else◌, nat_le, nat_lt, Contains}

pub record Memory : Type 0 where
  pub flash : List ℕ
  pub ram : List ℕ

-- a memory that was opened, and the regions that were given then, by base and size
pub record Opened : Type 0 where
  pub bytes : Memory
  pub regions : List (ℕ × ℕ)

-- every number in memory is a byte
abbrev pub AreAllBytes : List ℕ → Type 0
AreAllBytes xs = (b : ℕ) → Contains xs b → b < 256

-- the byte at an address, if there is one
abbrev pub byte_at : Memory → ℕ → Option ℕ
byte_at m a =
    if nat_le 0x20000000 a then slice_get m.ram (a - 0x20000000)
    else (if nat_le 0x08000000 a then slice_get m.flash (a - 0x08000000) else None)

-- the n bytes from an address on; fewer if the memory ends before that, and none if there is no memory at the
-- address
unfoldable pub bytes_at : Memory → ℕ → ℕ → List ℕ
bytes_at m a n =
    if nat_le 0x20000000 a then take n (drop (a - 0x20000000) m.ram)
    else (if nat_le 0x08000000 a then take n (drop (a - 0x08000000) m.flash) else [])

-- the number that bytes spell, the lowest byte first
abbrev pub number_of : List ℕ → ℕ
number_of [] = 0
number_of (byte ∷ bytes) = byte + 256 * number_of bytes

abbrev pub number_at : Memory → ℕ → ℕ → ℕ
number_at m a n = number_of (bytes_at m a n)

-- whether there is a byte at an address
abbrev pub is_held : Memory → ℕ → Bool
is_held m a =
    if nat_le 0x20000000 a then nat_lt (a - 0x20000000) (length m.ram)
    else (if nat_le 0x08000000 a then nat_lt (a - 0x08000000) (length m.flash) else false)

-- a list with these bytes written over its elements from an index on
abbrev pub pasted : List ℕ → ℕ → List ℕ → List ℕ
pasted xs at bytes = take at xs ++ bytes ++ drop (at + length bytes) xs

-- the memory with these bytes from an address on
unfoldable pub with_bytes : Memory → ℕ → List ℕ → Memory
with_bytes m a bytes =
    if nat_le 0x20000000 a then record m { ram = pasted m.ram (a - 0x20000000) bytes }
    else record m { flash = pasted m.flash (a - 0x08000000) bytes }

-- the memory with n bytes copied, all read before the first is written
unfoldable pub copied : Memory → ℕ → ℕ → ℕ → Memory
copied m from to n = with_bytes m to (bytes_at m from n)

-- whether n bytes from an address lie in the RAM
abbrev pub is_ram : Memory → ℕ → ℕ → Bool
is_ram m a n = nat_le 0x20000000 a && nat_le (a + n) (0x20000000 + length m.ram)

-- n bytes from an address on lie in the RAM; they lie in the flash or in the RAM. An empty range may begin at
-- any address
abbrev pub IsWithinRam : Memory → ℕ → ℕ → Type 0
IsWithinRam m a n = (n ≡ 0) ⊎ ((0x20000000 ≤ a) × (a + n ≤ 0x20000000 + length m.ram))

abbrev pub IsWithinFlash : Memory → ℕ → ℕ → Type 0
IsWithinFlash m a n = (0x08000000 ≤ a) × (a + n ≤ 0x08000000 + length m.flash)

abbrev pub IsWithin : Memory → ℕ → ℕ → Type 0
IsWithin m a n = IsWithinRam m a n ⊎ IsWithinFlash m a n

-- Regions, by base and size. None is empty, and each lies in the flash or in the RAM, which have these
-- numbers of bytes. Any two have the same bytes or no byte in common.
pub record AreRegions (flash ram : ℕ) (regions : List (ℕ × ℕ)) : Type 0 where
  pub some : (r : ℕ × ℕ) → Contains regions r → 0 < r.1
  pub inside : (r : ℕ × ℕ) → Contains regions r → ((0x20000000 ≤ r.0) × (r.0 + r.1 ≤ 0x20000000 + ram)) ⊎ ((0x08000000 ≤ r.0) × (r.0 + r.1 ≤ 0x08000000 + flash))
  pub apart : (r s : ℕ × ℕ) → Contains regions r → Contains regions s → (r ≡ s) ⊎ ((r.0 + r.1 ≤ s.0) ⊎ (s.0 + s.1 ≤ r.0))

-- A flash from 0x08000000 and a RAM from 0x20000000, behind regions.
use Rattle.std.specs.Prelude.{◌≡◌, ℕ, zero, suc, ◌+◌, ◌-◌, ◌*◌, ◌/◌, ◌%◌, ◌^◌, nat_eq, nat_le, nat_lt, ◌&&◌, List, length, true, false, slice_index, slice_set, replicate, [], ◌∷◌, Option, Some, None, if◌then◌else◌}
use Rattle.region_check.specs.declared.Right.{Right}
use Rattle.region_check.specs.declared.Region.{Region}
use Rattle.region_check.specs.Rights.{may_use}

-- the first of n bytes that lacks the right
unfoldable pub first_bad : List Region → ℕ → ℕ → Right → Option ℕ
first_bad regions a zero right = None
first_bad regions a (suc n) right = if may_use regions right a then first_bad regions (a + 1) n right else Some a

-- the byte at an address, or 0 outside flash and RAM
abbrev pub byte_at : List ℕ → List ℕ → ℕ → ℕ
byte_at flash ram a = if nat_le (2 ^ 29) a then slice_index ram (a - 2 ^ 29) else (if nat_le (2 ^ 27) a then slice_index flash (a - 2 ^ 27) else 0)

-- n bytes as a number, the low byte first
unfoldable pub number_of : List ℕ → List ℕ → ℕ → ℕ → ℕ
number_of flash ram a zero = 0
number_of flash ram a (suc n) = byte_at flash ram a + 256 * number_of flash ram (a + 1) n

-- the byte of the RAM at an address, or 0 outside the RAM
abbrev pub ram_at : List ℕ → ℕ → ℕ
ram_at ram a = if nat_le (2 ^ 29) a then slice_index ram (a - 2 ^ 29) else 0

-- the RAM after a store of n bytes: of these, the ones in the RAM are new
abbrev pub IsStored : List ℕ → ℕ → ℕ → ℕ → List ℕ → Type 0
IsStored old a n v new = (k : ℕ) → ram_at new k ≡ (if nat_le a k && nat_lt k (a + n) && nat_le (2 ^ 29) k && nat_lt k (2 ^ 29 + length old) then v / 256 ^ (k - a) % 256 else ram_at old k)

-- the RAM after a store of one byte
abbrev pub IsPut : List ℕ → ℕ → ℕ → List ℕ → Type 0
IsPut old a v new = (k : ℕ) → ram_at new k ≡ (if nat_eq k a && nat_le (2 ^ 29) k && nat_lt k (2 ^ 29 + length old) then v else ram_at old k)

-- the bytes of a flash and of a RAM
pub record Banks : Type 0 where
  pub flash : List ℕ
  pub ram : List ℕ

-- a byte is written at an address, into flash or RAM; outside both nothing changes
abbrev pub flash_with : List ℕ → ℕ → ℕ → List ℕ
flash_with flash a v = if nat_le (2 ^ 27) a && nat_lt a (2 ^ 27 + length flash) && nat_lt a (2 ^ 29) then slice_set flash (a - 2 ^ 27) v else flash

abbrev pub ram_with : List ℕ → ℕ → ℕ → List ℕ
ram_with ram a v = if nat_le (2 ^ 29) a && nat_lt a (2 ^ 29 + length ram) then slice_set ram (a - 2 ^ 29) v else ram

abbrev pub with_byte : Banks → ℕ → ℕ → Banks
with_byte m a v = record { flash = flash_with m.flash a v; ram = ram_with m.ram a v }

-- a halfword, its low byte first
abbrev pub with_half : Banks → ℕ → ℕ → Banks
with_half m a h = with_byte (with_byte m a (h % 256)) ((a + 1) % 2 ^ 32) (h / 256)

-- addresses with their bytes, one after another
unfoldable pub with_bytes : Banks → List (ℕ × ℕ) → Banks
with_bytes m [] = m
with_bytes m (b ∷ bs) = with_bytes (with_byte m b.0 b.1) bs

-- 64 KiB of flash and 4 KiB of RAM
abbrev pub zeros : Banks
zeros = record { flash = replicate 0x10000 0; ram = replicate 0x1000 0 }

-- 64 KiB of flash, to be read and executed
abbrev pub flash_region : Region
flash_region = record { base = 2 ^ 27; size = 0x10000; rights = record { read = true; write = false; execute = true; device = false } }

-- 4 KiB of RAM, to be read and written
abbrev pub ram_region : Region
ram_region = record { base = 2 ^ 29; size = 0x1000; rights = record { read = true; write = true; execute = false; device = false } }

-- Places: where an instruction may stand. These are the even addresses of the flash (at most 2^20 bytes from
-- 0x08000000 on) and of the RAM (at most 2^18 bytes from 0x20000000 on). Each place has a number, its index
-- in a table; the places of the flash come first.
use Rattle.std.specs.Prelude.{ℕ, ◌+◌, ◌-◌, ◌*◌, ◌/◌, ◌%◌, ◌==◌, ◌&&◌, Bool, nat_le, nat_lt, if◌then◌else◌, Option, Some, None, is_some}

abbrev pub is_in_flash : ℕ → Bool
is_in_flash a = nat_le 0x08000000 a && nat_lt a 0x08100000

abbrev pub is_in_ram : ℕ → Bool
is_in_ram a = nat_le 0x20000000 a && nat_lt a 0x20040000

-- the number of an even address of the flash or the RAM
abbrev pub number_of : ℕ → Option ℕ
number_of a = if is_in_flash a then Some ((a - 0x08000000) / 2) else (if is_in_ram a then Some (524288 + (a - 0x20000000) / 2) else None)

unfoldable pub place_of : ℕ → Option ℕ
place_of a = if a % 2 == 0 then number_of a else None

-- whether there is a place at an address
abbrev pub is_place : ℕ → Bool
is_place a = is_some (place_of a)

unfoldable pub address_of : ℕ → ℕ
address_of k = if nat_lt k 524288 then 0x08000000 + 2 * k else 0x20000000 + 2 * (k - 524288)

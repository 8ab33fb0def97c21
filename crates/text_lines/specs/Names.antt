-- The names that tasks, notifications, regions and devices may have.
use Rattle.std.specs.Prelude.{ℕ, Bool, List, ◌&&◌, ◌||◌, ◌==◌, length, nat_le, nat_lt}
use Rattle.std.specs.List.{list_all, slice_index_or}

abbrev pub is_letter : ℕ → Bool
is_letter b = (nat_le 65 b && nat_le b 90) || (nat_le 97 b && nat_le b 122)

-- a letter, a digit or `_`
abbrev pub is_name_byte : ℕ → Bool
is_name_byte b = is_letter b || (nat_le 48 b && nat_le b 57) || b == 95

-- a letter, then letters, digits and `_`; at most 24
abbrev pub is_name : List ℕ → Bool
is_name text = nat_lt 0 (length text) && nat_le (length text) 24
    && is_letter (slice_index_or text 0 0) && list_all is_name_byte text

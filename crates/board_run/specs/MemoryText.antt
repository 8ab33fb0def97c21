-- The text of a run's last memory: each different region of RAM, by ascending base (docs/FORMATS.md, Memories).
use Rattle.std.specs.Prelude.{ℕ, ◌+◌, ◌*◌, ◌/◌, ◌%◌, ◌==◌, Bool, if◌then◌else◌, List, [], ◌∷◌, ◌++◌, codes, decimal, min, Option, find, unwrap_or}
use Rattle.std.specs.List.{flat_map, list_all, range_with_len}
use Rattle.std.specs.Option.{option_map_or}
use Rattle.region_check.specs.declared.Region.{Region}
use Rattle.mem_banks.specs.Memory.{Memory, byte_at}
use Rattle.task_table.specs.model.State.{Setup, State}
use Rattle.trace_text.specs.Text.{hex}
use Rattle.thumb_insn.specs.Text.{hex_digit}

-- ## sixteen bytes

-- the byte at an address; 0 if there is none
abbrev pub byte_of : Memory → ℕ → ℕ
byte_of m a = unwrap_or (byte_at m a) 0

-- two hexadecimal digits
abbrev pub byte_hex : ℕ → List ℕ
byte_hex b = hex_digit (b / 16 % 16) ∷ hex_digit (b % 16) ∷ []

-- the first n bytes from an address on, in hexadecimal digits
abbrev pub hex_at : Memory → ℕ → ℕ → List ℕ
hex_at m a k = byte_hex (byte_of m (a + k))

unfoldable pub bytes_hex : Memory → ℕ → ℕ → List ℕ
bytes_hex m a n = flat_map (hex_at m a) (range_with_len 0 n)

abbrev pub is_zero : Memory → ℕ → ℕ → Bool
is_zero m a k = byte_of m (a + k) == 0

-- the first n bytes from an address on are zero
unfoldable pub are_zeros : Memory → ℕ → ℕ → Bool
are_zeros m a n = list_all (is_zero m a) (range_with_len 0 n)

-- `<address h> <32 digits>`
unfoldable pub row_line : Memory → ℕ → List ℕ
row_line m a = hex a ++ codes " " ++ bytes_hex m a 16 ++ codes "\n"

-- a row of zeros has no line
abbrev pub row_text : Memory → ℕ → List ℕ
row_text m a = if are_zeros m a 16 then [] else row_line m a

-- ## a region

-- `mem <base h> <size>`
unfoldable pub region_line : Region → List ℕ
region_line r = codes "mem " ++ hex r.base ++ codes " " ++ decimal r.size ++ codes "\n"

-- this many rows from a base on
abbrev pub row_at : Memory → ℕ → ℕ → List ℕ
row_at m base k = row_text m (base + 16 * k)

unfoldable pub rows_text : Memory → ℕ → ℕ → List ℕ
rows_text m base n = flat_map (row_at m base) (range_with_len 0 n)

-- no region of RAM is longer than RAM, which has at most 2^18 bytes
abbrev pub row_count : Region → ℕ
row_count r = min r.size 262144 / 16

unfoldable pub region_text : Memory → Region → List ℕ
region_text m r = region_line r ++ rows_text m r.base (row_count r)

-- ## which regions

abbrev pub begins_at : ℕ → Region → Bool
begins_at base r = r.base == base

abbrev pub regions_of : Setup → List Region
regions_of g = flat_map (λ t. t.regions) g.tasks

-- the region that begins at an address; if several tasks have it, it is one region
unfoldable pub region_at : Setup → ℕ → Option Region
region_at g base = find (begins_at base) (regions_of g)

-- the text for the k-th place in RAM at which a region may begin
abbrev pub place_text : Setup → Memory → ℕ → List ℕ
place_text g m k = option_map_or (region_text m) (region_at g (0x20000000 + 256 * k)) []

-- RAM has at most 2^18 bytes from 0x20000000 on, and a region begins at a multiple of 256
unfoldable pub places_text : Setup → Memory → ℕ → List ℕ
places_text g m n = flat_map (place_text g m) (range_with_len 0 n)

unfoldable pub memory_text : Setup → State → List ℕ
memory_text g s = places_text g s.memory 1024

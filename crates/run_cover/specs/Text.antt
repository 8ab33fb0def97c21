-- The text of a cover: each different region of code, by ascending base, with how often each known instruction was executed
-- (docs/FORMATS.md, Cover).
use Rattle.std.specs.Prelude.{ℕ, ◌+◌, ◌-◌, ◌*◌, ◌/◌, ◌==◌, ◌&&◌, ◌||◌, not, Bool, nat_lt, if◌then◌else◌, List, [], ◌++◌, codes, decimal, min, Option, find, fold}
use Rattle.std.specs.List.{flat_map, position_or_len, range_with_len}
use Rattle.std.specs.Option.{option_map_or}
use Rattle.region_check.specs.declared.Region.{Region}
use Rattle.mem_banks.specs.Memory.{Memory}
use Rattle.thumb_insn.specs.Table.{is_wide}
use Rattle.thumb_asm.specs.Meaning.{Names}
use Rattle.trace_text.specs.Text.{hex, code_decoded, decoded_text}
use Rattle.task_table.specs.model.State.{Setup}
use Rattle.board_model.specs.Run.{Run}
use Rattle.board_run.specs.MemoryText.{regions_of}
use Rattle.run_cover.specs.declared.counts.Count.{Count}
use Rattle.run_cover.specs.declared.totals.Totals.{Totals}
use Rattle.run_cover.specs.Counted.{counts}
use Rattle.run_cover.specs.Covered.{Covered}
use Rattle.run_cover.specs.Totals.{added, no_totals, totals_in}
use Rattle.run_cover.specs.Ways.{half_at, insn_code, is_conditional, stands_at}

-- ## a known instruction

-- `-` if it was never executed
abbrev pub count_text : ℕ → List ℕ
count_text n = if n == 0 then codes "-" else decimal n

-- `; taken <k>` for a conditional branch that was executed
abbrev pub taken_text : Bool → Count → List ℕ
taken_text conditional c = if conditional && nat_lt 0 c.executed then codes "; taken " ++ decimal c.taken else []

-- `; faulted <k>` if a task faulted at it
abbrev pub faulted_text : ℕ → List ℕ
faulted_text n = if n == 0 then [] else codes "; faulted " ++ decimal n

-- `<count> <address h> <text>`
unfoldable pub insn_line : Memory → Count → ℕ → List ℕ
insn_line m c a = count_text c.executed ++ codes " " ++ hex a ++ codes " " ++ decoded_text a (code_decoded (insn_code m a)) ++ taken_text (is_conditional (stands_at m a)) c ++ faulted_text c.faulted ++ codes "\n"

-- ## the labels before it

-- `label <address h> <name>`
unfoldable pub label_line : List ℕ × ℕ → List ℕ
label_line l = codes "label " ++ hex l.1 ++ codes " " ++ l.0 ++ codes "\n"

abbrev pub label_at : ℕ → List ℕ × ℕ → List ℕ
label_at a l = if l.1 == a then label_line l else []

-- the lines of the labels at an address
unfoldable pub labels_text : Names → ℕ → List ℕ
labels_text ls a = flat_map (label_at a) ls

-- ## halfwords that belong to no known instruction

-- the halfword at an address is the first or the second one of a known instruction
abbrev pub is_taken_up : Covered → ℕ → Bool
is_taken_up v a = v.known a || (v.known (a - 2) && is_wide (half_at v.memory (a - 2)))

-- how many halfwords in a row, from an address on and at most n, belong to no known instruction
unfoldable pub rest_len : Covered → ℕ → ℕ → ℕ
rest_len v a n = position_or_len (λ i. is_taken_up v (a + 2 * i)) (range_with_len 0 n)

-- `rest <address h> <n>`
unfoldable pub rest_line : ℕ → ℕ → List ℕ
rest_line a n = codes "rest " ++ hex a ++ codes " " ++ decimal n ++ codes "\n"

-- such a row begins at an address: the halfword there is the first one of the region, or the one before it
-- belongs to an instruction
abbrev pub begins_rest : Covered → ℕ → ℕ → Bool
begins_rest v a j = not (is_taken_up v a) && (j == 0 || is_taken_up v (a - 2))

-- ## a region

-- the labels at the address of a known instruction, and then its line
abbrev pub known_text : Covered → Names → ℕ → List ℕ
known_text v ls a = labels_text ls a ++ insn_line v.memory (v.counts a) a

-- the lines of the j-th of n places from a base on
abbrev pub place_text : Covered → Names → ℕ → ℕ → ℕ → List ℕ
place_text v ls n j a = if v.known a then known_text v ls a else (if begins_rest v a j then rest_line a (2 * rest_len v a (n - j)) else [])

abbrev pub row_at : Covered → Names → ℕ → ℕ → ℕ → List ℕ
row_at v ls base n j = place_text v ls n j (base + 2 * j)

unfoldable pub rows_text : Covered → Names → ℕ → ℕ → List ℕ
rows_text v ls base n = flat_map (row_at v ls base n) (range_with_len 0 n)

-- `code <base h> <size>`
unfoldable pub code_line : Region → List ℕ
code_line r = codes "code " ++ hex r.base ++ codes " " ++ decimal r.size ++ codes "\n"

-- `<a> of <b> instructions, <c> of <d> ways`
unfoldable pub totals_text : Totals → List ℕ
totals_text t = decimal t.executed ++ codes " of " ++ decimal t.known ++ codes " instructions, " ++ decimal t.gone ++ codes " of " ++ decimal t.ways ++ codes " ways\n"

-- the number of places in a region; no region of code is longer than the flash, which has at most 2^20 bytes
abbrev pub place_count : Region → ℕ
place_count r = min r.size 1048576 / 2

abbrev pub region_totals : Covered → Region → Totals
region_totals v r = totals_in v r.base (place_count r)

unfoldable pub region_text : Covered → Names → Region → List ℕ
region_text v ls r = code_line r ++ (rows_text v ls r.base (place_count r) ++ (codes "covered " ++ totals_text (region_totals v r)))

-- ## which regions

abbrev pub is_code_at : ℕ → Region → Bool
is_code_at base r = r.base == base && r.rights.execute

-- the region of code that begins at an address; if several tasks have it, it counts as one region
unfoldable pub code_at : Setup → ℕ → Option Region
code_at g base = find (is_code_at base) (regions_of g)

-- the addresses where a region may begin: the multiples of 256 bytes, 4096 in the flash and then 1024 in the
-- RAM
unfoldable pub base_of : ℕ → ℕ
base_of i = if nat_lt i 4096 then 0x08000000 + 256 * i else 0x20000000 + 256 * (i - 4096)

abbrev pub base_text : Setup → Covered → Names → ℕ → List ℕ
base_text g v ls i = option_map_or (region_text v ls) (code_at g (base_of i)) []

unfoldable pub bases_text : Setup → Covered → Names → ℕ → List ℕ
bases_text g v ls n = flat_map (base_text g v ls) (range_with_len 0 n)

-- the totals of all regions; an instruction in two regions counts twice
abbrev pub base_totals : Setup → Covered → ℕ → Totals
base_totals g v i = option_map_or (region_totals v) (code_at g (base_of i)) no_totals

unfoldable pub all_totals : Setup → Covered → ℕ → Totals
all_totals g v n = fold (λ t i. added t (base_totals g v i)) no_totals (range_with_len 0 n)

unfoldable pub listing_text : Setup → Covered → Names → List ℕ
listing_text g v ls = bases_text g v ls 5120 ++ (codes "in all " ++ totals_text (all_totals g v 5120))

-- what a listing shows of a run, with a test that says what is known
abbrev pub covered_by : Run → (ℕ → Bool) → Covered
covered_by r k = record { memory = r.last.memory; counts = counts r.notes; known = k }

abbrev pub cover_text : Setup → Run → (ℕ → Bool) → Names → List ℕ
cover_text g r k ls = listing_text g (covered_by r k) ls

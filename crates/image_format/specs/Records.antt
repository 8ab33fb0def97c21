-- Where the fields of both forms stand in the bytes, and the first cause by which the bytes are refused.
-- Numbers are little-endian.
use Rattle.std.specs.Prelude.{ℕ, zero, suc, ◌+◌, ◌*◌, ◌/◌, ◌%◌, ◌==◌, List, [], ◌∷◌, ◌++◌, Option, Some, None, Result, Ok, Err, length, drop, take, slice_index, if◌then◌else◌, nat_lt}
use Rattle.std.specs.List.{flat_map}
use Rattle.image_format.specs.declared.records.ImageForm.{ImageForm}
use Rattle.image_format.specs.declared.records.ImageForm.TheVariants.{First, Second}
use Rattle.image_format.specs.declared.records.Header.{Header}
use Rattle.image_format.specs.declared.records.TaskRecord.{TaskRecord}
use Rattle.image_format.specs.declared.records.RegionRecord.{RegionRecord}
use Rattle.image_format.specs.declared.records.LineRecord.{LineRecord}
use Rattle.image_format.specs.Names.{names_fault}
use Rattle.image_format.specs.Regions.{line_devices_fault, entries_fault, regions_fault}
use Rattle.image_format.specs.Steps.{Refusal, count_fault, field_fault, header_size, lines_fault, lines_place, names_place, or_else, regions_place, tasks_fault}

-- the parts of a file, in its order
pub record Records : Type 0 where
  pub header : Header
  pub tasks : List TaskRecord
  pub regions : List RegionRecord
  pub lines : List LineRecord
  pub names : List ℕ
  pub flash : List ℕ

-- ---- the parts at their places

abbrev pub half : List ℕ → ℕ → ℕ
half bytes at = slice_index bytes at + 256 * slice_index bytes (at + 1)

abbrev pub num : List ℕ → ℕ → ℕ
num bytes at = slice_index bytes at + 256 * slice_index bytes (at + 1)
    + 65536 * slice_index bytes (at + 2) + 16777216 * slice_index bytes (at + 3)

abbrev pub header_at : ImageForm → List ℕ → Header
header_at First bytes = record {
  form = First;
  tasks = slice_index bytes 4;
  lines = slice_index bytes 5;
  regions = half bytes 6;
  zero = 0;
  flash = num bytes 8;
  ram = num bytes 12;
  bits = num bytes 16;
  names = 0;
}
header_at Second bytes = record {
  form = Second;
  tasks = half bytes 4;
  lines = half bytes 6;
  regions = half bytes 8;
  zero = half bytes 10;
  flash = num bytes 12;
  ram = num bytes 16;
  bits = num bytes 20;
  names = num bytes 24;
}

abbrev pub task_at : List ℕ → TaskRecord
task_at bytes = record {
  priority = slice_index bytes 0;
  flags = slice_index bytes 1;
  regions = slice_index bytes 2;
  names = slice_index bytes 3;
  entry = num bytes 4;
  sp = num bytes 8;
}

abbrev pub region_at : List ℕ → RegionRecord
region_at bytes = record { base = num bytes 0; size = num bytes 4; rights = num bytes 8 }

abbrev pub line_at : ImageForm → List ℕ → LineRecord
line_at First bytes = record {
  line = slice_index bytes 0;
  task = slice_index bytes 1;
  device = half bytes 2;
  bits = num bytes 4;
}
line_at Second bytes = record {
  line = slice_index bytes 0;
  task = half bytes 2;
  device = slice_index bytes 1;
  bits = num bytes 4;
}

-- so many records, one after the other
abbrev pub tasks_at : ℕ → List ℕ → List TaskRecord
tasks_at zero bytes = []
tasks_at (suc n) bytes = task_at bytes ∷ tasks_at n (drop 12 bytes)

abbrev pub regions_at : ℕ → List ℕ → List RegionRecord
regions_at zero bytes = []
regions_at (suc n) bytes = region_at bytes ∷ regions_at n (drop 12 bytes)

abbrev pub lines_at : ImageForm → ℕ → List ℕ → List LineRecord
lines_at form zero bytes = []
lines_at form (suc n) bytes = line_at form bytes ∷ lines_at form n (drop 8 bytes)

abbrev pub flash_place : Header → ℕ
flash_place h = header_size h.form + 12 * h.tasks + 12 * h.regions + 8 * h.lines + h.names

abbrev pub total : Header → ℕ
total h = header_size h.form + 12 * h.tasks + 12 * h.regions + 8 * h.lines + h.names + h.flash

abbrev pub records_at : Header → List ℕ → Records
records_at h bytes = record {
  header = h;
  tasks = tasks_at h.tasks (drop (header_size h.form) bytes);
  regions = regions_at h.regions (drop (regions_place h) bytes);
  lines = lines_at h.form h.lines (drop (lines_place h) bytes);
  names = take h.names (drop (names_place h) bytes);
  flash = drop (flash_place h) bytes;
}

-- ---- the steps in order: the first cause and its place, or the parts

-- the letters `HBI1` and `HBI2`
abbrev pub letters : ImageForm → ℕ
letters First = 826884680
letters Second = 843661896

-- the form of which the bytes begin with the letters
abbrev pub form_at : List ℕ → Option ImageForm
form_at bytes =
    if num bytes 0 == letters First then Some First
    else if num bytes 0 == letters Second then Some Second
    else None

abbrev pub unless : {T : Type 0} → Option Refusal → Result T Refusal → Result T Refusal
unless None next = next
unless (Some fault) next = Err fault

-- a file of n bytes has the length that its header tells
abbrev pub sized : Header → ℕ → Result Header Refusal
sized h n =
    if nat_lt n (total h) then Err (1, n)
    else if nat_lt (total h) n then Err (4, total h)
    else Ok h

-- the header of the form, checked alone and against the file's length
abbrev pub header_in : Option ImageForm → List ℕ → Result Header Refusal
header_in None bytes = Err (2, 0)
header_in (Some form) bytes =
    if nat_lt (length bytes) (header_size form) then Err (1, length bytes)
    else unless (field_fault (header_at form bytes)) (sized (header_at form bytes) (length bytes))

-- no form is shorter than the first
abbrev pub header_or_fault : List ℕ → Result Header Refusal
header_or_fault bytes =
    if nat_lt (length bytes) (header_size First) then Err (1, length bytes)
    else header_in (form_at bytes) bytes

-- the first refusal of the records
abbrev pub records_fault : Records → Option Refusal
records_fault r =
    or_else (tasks_fault r.header r.tasks)
    (or_else (count_fault r.header r.tasks)
    (or_else (regions_fault r.header r.tasks r.regions)
    (or_else (entries_fault r.header r.tasks r.regions)
    (or_else (lines_fault r.header r.lines)
    (or_else (line_devices_fault r.header r.tasks r.regions r.lines)
    (names_fault r.header r.tasks r.names))))))

abbrev pub checked : Records → Result Records Refusal
checked r = unless (records_fault r) (Ok r)

abbrev pub followed : Result Header Refusal → List ℕ → Result Records Refusal
followed (Ok h) bytes = checked (records_at h bytes)
followed (Err fault) bytes = Err fault

abbrev pub records_or_fault : List ℕ → Result Records Refusal
records_or_fault bytes = followed (header_or_fault bytes) bytes

-- ---- the bytes of the parts

abbrev pub half_bytes : ℕ → List ℕ
half_bytes n = n % 256 ∷ n / 256 ∷ []

abbrev pub num_bytes : ℕ → List ℕ
num_bytes n = n % 256 ∷ n / 256 % 256 ∷ n / 65536 % 256 ∷ n / 16777216 ∷ []

-- the letters, and the fields after them
unfoldable pub header_bytes_in : ImageForm → Header → List ℕ
header_bytes_in First h = (72 ∷ 66 ∷ 73 ∷ 49 ∷ h.tasks ∷ h.lines ∷ []) ++ half_bytes h.regions ++ num_bytes h.flash ++ num_bytes h.ram ++ num_bytes h.bits
header_bytes_in Second h = (72 ∷ 66 ∷ 73 ∷ 50 ∷ []) ++ half_bytes h.tasks ++ half_bytes h.lines ++ half_bytes h.regions ++ half_bytes h.zero
    ++ num_bytes h.flash ++ num_bytes h.ram ++ num_bytes h.bits ++ num_bytes h.names

abbrev pub header_bytes : Header → List ℕ
header_bytes h = header_bytes_in h.form h

abbrev pub task_bytes : TaskRecord → List ℕ
task_bytes t = (t.priority ∷ t.flags ∷ t.regions ∷ t.names ∷ []) ++ num_bytes t.entry ++ num_bytes t.sp

abbrev pub region_bytes : RegionRecord → List ℕ
region_bytes r = num_bytes r.base ++ num_bytes r.size ++ num_bytes r.rights

abbrev pub line_bytes : ImageForm → LineRecord → List ℕ
line_bytes First l = (l.line ∷ l.task ∷ []) ++ half_bytes l.device ++ num_bytes l.bits
line_bytes Second l = (l.line ∷ l.device ∷ []) ++ half_bytes l.task ++ num_bytes l.bits

abbrev pub bytes_of : Records → List ℕ
bytes_of r = header_bytes r.header ++ (flat_map task_bytes r.tasks ++ (flat_map region_bytes r.regions
    ++ (flat_map (line_bytes r.header.form) r.lines ++ (r.names ++ r.flash))))

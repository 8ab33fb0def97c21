-- An image: what it says of tasks, interrupts and memory, without how it is spelled; and its spellings.
use Rattle.std.specs.Prelude.{zero, suc, Option, None, slice_get, ◌≡◌, ◌≤◌, ◌<◌, ◌⊎◌, Contains, ℕ, Bool, ◌+◌, ◌/◌, ◌%◌, ◌==◌, false, List, [], ◌∷◌, Result, Ok, Err, length, map, take, drop, slice_index, slice_index_or, if◌then◌else◌}
use Rattle.std.specs.List.{flat_map}
use Rattle.region_check.specs.declared.Region.{Region}
use Rattle.region_check.specs.declared.Rights.{Rights}
use Rattle.image_format.specs.declared.records.ImageForm.{ImageForm}
use Rattle.image_format.specs.declared.records.ImageForm.TheVariants.{First, Second}
use Rattle.image_format.specs.declared.records.Header.{Header}
use Rattle.image_format.specs.declared.records.TaskRecord.{TaskRecord}
use Rattle.image_format.specs.declared.records.RegionRecord.{RegionRecord}
use Rattle.image_format.specs.declared.records.LineRecord.{LineRecord}
use Rattle.image_format.specs.Accepted.{Accepted}
use Rattle.image_format.specs.Names.{after_names, names_of}
use Rattle.image_format.specs.Records.{Records, bytes_of, records_or_fault}
use Rattle.image_format.specs.Steps.{Refusal, highest_line, most_lines, most_tasks}

-- a task: its priority (0 is the highest), whether it runs at the start, where it begins (the lowest bit set), its first
-- stack pointer, the bytes that it may use, and the names of its notifications, of which the k-th is bit k
pub record ImageTask : Type 0 where
  pub priority : ℕ
  pub started : Bool
  pub entry : ℕ
  pub sp : ℕ
  pub regions : List Region
  pub names : List (List ℕ)

-- An interrupt line, the task that owns it, and the notification bits that it posts. A device may drive it: its region
-- is one of the task's, counted from one; 0 where none does.
pub record ImageLine : Type 0 where
  pub line : ℕ
  pub task : ℕ
  pub bits : ℕ
  pub device : ℕ

pub record ImageData : Type 0 where
  pub fault_bits : ℕ  -- what is posted to the supervisor, task 0, at a fault
  pub ram : ℕ  -- how many bytes of RAM
  pub tasks : List ImageTask
  pub lines : List ImageLine
  pub flash : List ℕ

abbrev pub no_task : ImageTask
no_task = record { priority = 0; started = false; entry = 0; sp = 0; regions = []; names = [] }

-- the i-th task
abbrev pub task_in : ImageData → ℕ → ImageTask
task_in p i = slice_index_or p.tasks i no_task

abbrev pub regions_in : ImageData → ℕ → List Region
regions_in p i = (task_in p i).regions

abbrev pub names_in : ImageData → ℕ → List (List ℕ)
names_in p i = (task_in p i).names

abbrev pub no_line : ImageLine
no_line = record { line = 0; task = 0; bits = 0; device = 0 }

-- the k-th interrupt
abbrev pub line_in : ImageData → ℕ → ImageLine
line_in p k = slice_index_or p.lines k no_line

-- the region of a task by its number, which counts from one
abbrev pub region_by : List Region → ℕ → Option Region
region_by regions zero = None
region_by regions (suc k) = slice_get regions k

-- the region of the device that drives the k-th interrupt, if one does
abbrev pub device_region : ImageData → ℕ → Option Region
device_region p k = region_by (regions_in p (line_in p k).task) (line_in p k).device

-- ---- the records that say it

-- rights as a number: 1 read, 2 write, 4 execute, 8 device
abbrev pub bit : Bool → ℕ → ℕ
bit has value = if has then value else 0

abbrev pub rights_number : Rights → ℕ
rights_number r = bit r.read 1 + bit r.write 2 + bit r.execute 4 + bit r.device 8

abbrev pub task_record : ImageTask → TaskRecord
task_record t = record {
  priority = t.priority;
  flags = bit t.started 1;
  regions = length t.regions;
  names = length t.names;
  entry = t.entry;
  sp = t.sp;
}

abbrev pub region_record : Region → RegionRecord
region_record r = record { base = r.base; size = r.size; rights = rights_number r.rights }

abbrev pub line_record : ImageLine → LineRecord
line_record l = record { line = l.line; task = l.task; device = l.device; bits = l.bits }

-- the tasks' regions in order
abbrev pub all_regions : List ImageTask → List Region
all_regions = flat_map (λ t. t.regions)

-- a name is its length and its bytes
abbrev pub name_bytes : List ℕ → List ℕ
name_bytes name = length name ∷ name

abbrev pub names_bytes : List (List ℕ) → List ℕ
names_bytes = flat_map name_bytes

-- the tasks' names in order
abbrev pub all_names : List ImageTask → List ℕ
all_names = flat_map (λ t. names_bytes t.names)

abbrev pub header_of : ImageForm → ImageData → Header
header_of form p = record {
  form = form;
  tasks = length p.tasks;
  lines = length p.lines;
  regions = length (all_regions p.tasks);
  zero = 0;
  flash = length p.flash;
  ram = p.ram;
  bits = p.fault_bits;
  names = length (all_names p.tasks);
}

abbrev pub records_of : ImageForm → ImageData → Records
records_of form p = record {
  header = header_of form p;
  tasks = map task_record p.tasks;
  regions = map region_record (all_regions p.tasks);
  lines = map line_record p.lines;
  names = all_names p.tasks;
  flash = p.flash;
}

-- the one spelling of an image in the second form, in which images are written
abbrev pub spelling : ImageData → List ℕ
spelling p = bytes_of (records_of Second p)

-- the bytes spell the image in the first form, which holds at most 32 tasks and 32 interrupts of the lines below 32, no
-- lines that devices drive, and no names
pub record SpellsFirst (p : ImageData) (bytes : List ℕ) : Type 0 where
  pub spelled : bytes ≡ bytes_of (records_of First p)
  pub few_tasks : length p.tasks ≤ most_tasks First
  pub few_lines : length p.lines ≤ most_lines First
  pub low_lines : (l : ImageLine) → Contains p.lines l → l.line ≤ highest_line First
  pub undriven : (l : ImageLine) → Contains p.lines l → l.device ≡ 0
  pub unnamed : (t : ImageTask) → Contains p.tasks t → t.names ≡ []

-- the bytes spell the image in one of the two forms: header, tasks, regions, interrupts, names, flash, and nothing else
abbrev pub Spells : ImageData → List ℕ → Type 0
Spells p bytes = SpellsFirst p bytes ⊎ (bytes ≡ spelling p)

-- no step refuses the image
abbrev pub Sound : ImageData → Type 0
Sound p = Accepted (records_of Second p)

-- ---- what records say

abbrev pub rights_of : ℕ → Rights
rights_of n = record {
  read = n % 2 == 1;
  write = n / 2 % 2 == 1;
  execute = n / 4 % 2 == 1;
  device = n / 8 % 2 == 1;
}

abbrev pub region_of : RegionRecord → Region
region_of r = record { base = r.base; size = r.size; rights = rights_of r.rights }

abbrev pub line_of : LineRecord → ImageLine
line_of l = record { line = l.line; task = l.task; bits = l.bits; device = l.device }

-- a task with its own regions and its own names
abbrev pub task_of : TaskRecord → List RegionRecord → List (List ℕ) → ImageTask
task_of t own names = record {
  priority = t.priority;
  started = t.flags == 1;
  entry = t.entry;
  sp = t.sp;
  regions = map region_of own;
  names = names;
}

-- the regions and the names follow one another in the order of the tasks
abbrev pub tasks_of : List TaskRecord → List RegionRecord → List ℕ → List ImageTask
tasks_of [] rs names = []
tasks_of (t ∷ ts) rs names =
    task_of t (take t.regions rs) (names_of t.names names)
    ∷ tasks_of ts (drop t.regions rs) (after_names t.names names)

abbrev pub image_data_of : Records → ImageData
image_data_of r = record {
  fault_bits = r.header.bits;
  ram = r.header.ram;
  tasks = tasks_of r.tasks r.regions r.names;
  lines = map line_of r.lines;
  flash = r.flash;
}

-- ---- reading

abbrev pub pictured : Result Records Refusal → Result ImageData Refusal
pictured (Ok r) = Ok (image_data_of r)
pictured (Err fault) = Err fault

-- the numbers are bytes
abbrev pub AreBytes : List ℕ → Type 0
AreBytes bytes = (i : ℕ) → slice_index bytes i < 256

-- the image that the bytes spell, or the first cause by which they are refused, with its place
abbrev pub image_or_fault : List ℕ → Result ImageData Refusal
image_or_fault bytes = pictured (records_or_fault bytes)

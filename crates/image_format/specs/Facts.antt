-- The facts that are true of each sound image.
use Rattle.std.specs.Prelude.{ℕ, List, [], ◌≡◌, ◌≢◌, ◌⊎◌, slice_index_or, ◌+◌, ◌-◌, ◌≤◌, ◌<◌, ◌%◌, Some, true, false, length, Contains}
use Rattle.region_check.specs.declared.Region.{Region}
use Rattle.region_check.specs.declared.Right.TheVariants.{Execute}
use Rattle.region_check.specs.Rights.{may_use, SameOrApart}
use Rattle.text_lines.specs.Names.{is_name}
use Rattle.image_format.specs.ImageData.{ImageData, device_region, line_in, names_in, regions_in, task_in}

-- the bytes of the region lie in the flash; they lie in the RAM
abbrev pub IsInFlash : ImageData → Region → Type 0
IsInFlash p r = (0x08000000 ≤ r.base) × (r.base + r.size ≤ 0x08000000 + length p.flash)

abbrev pub IsInRam : ImageData → Region → Type 0
IsInRam p r = (0x20000000 ≤ r.base) × (r.base + r.size ≤ 0x20000000 + p.ram)

pub record HasSizes (p : ImageData) : Type 0 where
  pub some_task : 1 ≤ length p.tasks
  pub most_tasks : length p.tasks ≤ 512
  pub most_lines : length p.lines ≤ 64
  pub some_flash : 1 ≤ length p.flash
  pub most_flash : length p.flash ≤ 1048576
  pub most_ram : p.ram ≤ 262144
  pub fault_bits : 0 < p.fault_bits

pub record HasTasks (p : ImageData) : Type 0 where
  pub supervisor : (task_in p 0).priority ≡ 0
  pub supervisor_started : (task_in p 0).started ≡ true
  pub priorities : (i : ℕ) → 0 < i → i < length p.tasks → 0 < (task_in p i).priority
  pub stacks : (i : ℕ) → (task_in p i).sp % 4 ≡ 0
  pub some_region : (i : ℕ) → i < length p.tasks → 1 ≤ length (regions_in p i)
  pub most_regions : (i : ℕ) → length (regions_in p i) ≤ 8
  pub odd_entries : (i : ℕ) → i < length p.tasks → (task_in p i).entry % 2 ≡ 1
  pub entries : (i : ℕ) → i < length p.tasks
      → may_use (regions_in p i) Execute ((task_in p i).entry - 1) ≡ true

-- each region r of a task i
pub record HasRegions (p : ImageData) : Type 0 where
  pub readable : (i : ℕ) (r : Region) → Contains (regions_in p i) r → r.rights.read ≡ true
  pub no_code : (i : ℕ) (r : Region) → Contains (regions_in p i) r
      → r.rights.device ≡ true → r.rights.execute ≡ false
  pub sizes : (i : ℕ) (r : Region) → Contains (regions_in p i) r → 256 ≤ r.size
  pub aligned : (i : ℕ) (r : Region) → Contains (regions_in p i) r → r.base % 256 ≡ 0
  pub within : (i : ℕ) (r : Region) → Contains (regions_in p i) r
      → r.rights.device ≡ false → IsInFlash p r ⊎ IsInRam p r
  pub writable : (i : ℕ) (r : Region) → Contains (regions_in p i) r
      → r.rights.device ≡ false → r.rights.write ≡ true → IsInRam p r
  pub devices : (i : ℕ) (r : Region) → Contains (regions_in p i) r
      → r.rights.device ≡ true → (0x40000000 ≤ r.base) × (r.base + r.size ≤ 0x60000000)
  pub apart : (i j : ℕ) (r e : Region) → Contains (regions_in p i) r
      → Contains (regions_in p j) e → SameOrApart r e

-- each interrupt k
pub record HasLines (p : ImageData) : Type 0 where
  pub ascending : (k m : ℕ) → k < m → m < length p.lines → (line_in p k).line < (line_in p m).line
  pub below : (k : ℕ) → (line_in p k).line < 64
  pub owners : (k : ℕ) → k < length p.lines → (line_in p k).task < length p.tasks
  pub bits : (k : ℕ) → k < length p.lines → 0 < (line_in p k).bits
  pub devices : (k : ℕ) → k < length p.lines → 0 < (line_in p k).device
      → (r : Region) × (device_region p k ≡ Some r) × (r.rights.device ≡ true)

-- the names of the notifications of each task i
pub record HasNames (p : ImageData) : Type 0 where
  pub few : (i : ℕ) → length (names_in p i) ≤ 32
  pub named : (i : ℕ) (name : List ℕ) → Contains (names_in p i) name → is_name name ≡ true
  pub different : (i k m : ℕ) → k < m → m < length (names_in p i)
      → slice_index_or (names_in p i) k [] ≢ slice_index_or (names_in p i) m []

pub record Facts (p : ImageData) : Type 0 where
  pub sizes : HasSizes p
  pub tasks : HasTasks p
  pub regions : HasRegions p
  pub lines : HasLines p
  pub names : HasNames p

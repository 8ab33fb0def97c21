-- Where an application's memory lies: flash planned over the tasks' flash, RAM over the tasks' RAM and
-- then the application's regions.
use Rattle.std.specs.Prelude.{ℕ, Bool, true, false, List, [], ◌∷◌, ◌++◌, ◌+◌, length, map, slice_index_or, if◌then◌else◌}
use Rattle.std.specs.Str.{bytes_eq}
use Rattle.app_toml.specs.Apps.{AppData, DeviceData, RegionData, TaskData}
use Rattle.app_toml.specs.Crossed.{has_region}
use Rattle.app_toml.specs.Places.{Text}
use Rattle.mem_plan.specs.Placing.{placed}
use Rattle.mem_plan.specs.Sizes.{rounded, total}
use Rattle.region_check.specs.declared.Region.{Region}

-- ---- sizes and bases

abbrev pub flash_wanted : AppData → List ℕ
flash_wanted app = map (λ t. t.flash) app.tasks

abbrev pub ram_wanted : AppData → List ℕ
ram_wanted app = map (λ t. t.ram) app.tasks ++ map (λ r. r.size) app.regions

abbrev pub flash_sizes : AppData → List ℕ
flash_sizes app = map rounded (flash_wanted app)

abbrev pub ram_sizes : AppData → List ℕ
ram_sizes app = map rounded (ram_wanted app)

-- how many bytes of flash and of RAM the image has
abbrev pub flash_needed : AppData → ℕ
flash_needed app = total (flash_sizes app)

abbrev pub ram_needed : AppData → ℕ
ram_needed app = total (ram_sizes app)

-- where the i-th task's flash and RAM begin, and the k-th region
abbrev pub flash_base : AppData → ℕ → ℕ
flash_base app i = placed 0x08000000 (flash_sizes app) i

abbrev pub ram_base : AppData → ℕ → ℕ
ram_base app i = placed 0x20000000 (ram_sizes app) i

abbrev pub region_base : AppData → ℕ → ℕ
region_base app k = ram_base app (length app.tasks + k)

-- ---- what names name

-- the index of a name, counted from k; the index after the last one if the name is not in the list
abbrev pub index_from : ℕ → Text → List Text → ℕ
index_from k name [] = k
index_from k name (n ∷ ns) = if bytes_eq n name then k else index_from (k + 1) name ns

abbrev pub index_of : Text → List Text → ℕ
index_of name names = index_from 0 name names

abbrev pub no_task : TaskData
no_task = record { name = []; source = []; priority = 0; start = false; flash = 0; ram = 0; stack = 0; notifications = []; uses = []; reads = [] }

abbrev pub no_region : RegionData
no_region = record { name = []; size = 0 }

abbrev pub no_device : DeviceData
no_device = record { name = []; base = 0; size = 0 }

abbrev pub task_at : AppData → ℕ → TaskData
task_at app i = slice_index_or app.tasks i no_task

abbrev pub index_of_region : AppData → Text → ℕ
index_of_region app name = index_of name (map (λ r. r.name) app.regions)

abbrev pub region_named : AppData → Text → RegionData
region_named app name = slice_index_or app.regions (index_of_region app name) no_region

abbrev pub device_named : AppData → Text → DeviceData
device_named app name = slice_index_or app.devices (index_of name (map (λ d. d.name) app.devices)) no_device

-- ---- the regions of a task

abbrev pub memory : ℕ → ℕ → Bool → Bool → Region
memory base size write execute = record {
  base = base;
  size = size;
  rights = record { read = true; write = write; execute = execute; device = false };
}

abbrev pub device : DeviceData → Bool → Region
device d write = record {
  base = d.base;
  size = d.size;
  rights = record { read = true; write = write; execute = false; device = true };
}

-- the region or the device of that name
abbrev pub named : AppData → Bool → Text → Region
named app write name = if has_region name app.regions
    then memory (region_base app (index_of_region app name)) (rounded (region_named app name).size) write false
    else device (device_named app name) write

-- its flash, its RAM, what it uses, what it reads
abbrev pub task_regions : AppData → ℕ → TaskData → List Region
task_regions app i t = memory (flash_base app i) (rounded t.flash) false true
    ∷ memory (ram_base app i) (rounded t.ram) true false
    ∷ (map (named app true) t.uses ++ map (named app false) t.reads)

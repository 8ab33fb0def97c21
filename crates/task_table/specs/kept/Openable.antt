-- Which regions of a task a window may have.
use Rattle.std.specs.Prelude.{ℕ, ◌<◌, ◌≤◌, ◌≡◌, ◌≢◌, ◌⊎◌, false, List, Contains}
use Rattle.region_check.specs.declared.Region.{Region}
use Rattle.mem_banks.specs.Windows.{IsNoRegion}
use Rattle.task_table.specs.model.State.{TaskSetup}

-- base and size
abbrev pub span_of : Region → ℕ × ℕ
span_of r = (r.base, r.size)

-- each region of a task that is not a device was given to the memory
abbrev pub AreOpenable : List (ℕ × ℕ) → List TaskSetup → Type 0
AreOpenable given tasks = (task : TaskSetup) (r : Region) → Contains tasks task → Contains task.regions r → r.rights.device ≡ false → Contains given (span_of r)

-- one of these regions, which is not a device and is not empty
pub record IsUsable (regions : List Region) (r : Region) : Type 0 where
  pub here : Contains regions r
  pub no_device : r.rights.device ≡ false
  pub some : 0 < r.size

-- such a region in the RAM, or none
abbrev pub IsUsableOrNone : List Region → Region → Type 0
IsUsableOrNone regions r = IsNoRegion (span_of r) ⊎ (IsUsable regions r × (0x20000000 ≤ r.base))

-- four of these regions: one in the flash, and three different ones in the RAM, of which each may be none
pub record AreUsable (regions : List Region) (flash ram area second : Region) : Type 0 where
  pub flash_usable : IsUsable regions flash
  pub below : flash.base < 0x20000000
  pub ram_usable : IsUsableOrNone regions ram
  pub area_usable : IsUsableOrNone regions area
  pub second_usable : IsUsableOrNone regions second
  pub other : IsNoRegion (span_of area) ⊎ (span_of ram ≢ span_of area)
  pub second_other : IsNoRegion (span_of second) ⊎ ((span_of ram ≢ span_of second) × (span_of area ≢ span_of second))

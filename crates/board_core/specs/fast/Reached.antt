-- Which regions of a task make up the window in which it goes on.
use Rattle.std.specs.Prelude.{ℕ, ◌≡◌, ◌⊎◌, Bool, ◌&&◌, not, true, false, List, Contains, Option, Some, None, find, if◌then◌else◌, nat_le, nat_lt, nat_eq}
use Rattle.std.specs.List.{list_any}
use Rattle.region_check.specs.declared.Region.{Region}
use Rattle.region_check.specs.Spans.{spans}
use Rattle.mem_banks.specs.Windows.{IsNoRegion}
use Rattle.task_table.specs.kept.Openable.{span_of}
use Rattle.board_core.specs.declared.fast_path.regions.WindowRegions.{WindowRegions}

-- a region of the flash that may be executed and has the instruction at an address
abbrev pub is_flash_at : ℕ → Region → Bool
is_flash_at at r = spans r at 2 && r.rights.execute && not r.rights.device && nat_lt r.base 0x20000000

-- a region of the RAM that may be read and written, and has an address or ends there
abbrev pub is_ram_at : ℕ → Region → Bool
is_ram_at at r = spans r at 0 && nat_lt 0 r.size && r.rights.read && r.rights.write && not r.rights.device && nat_le 0x20000000 r.base

-- one of these regions that has the stack; the empty region if none has it
abbrev pub IsStackRegion : List Region → ℕ → Region → Type 0
IsStackRegion regions sp r = (Contains regions r × (is_ram_at sp r ≡ true)) ⊎ (IsNoRegion (span_of r) × (list_any (is_ram_at sp) regions ≡ false))

-- a region of the RAM that may be read, is not empty, and is not that of the stack
abbrev pub is_area : Region → Region → Bool
is_area stack r = nat_le 0x20000000 r.base && nat_lt 0 r.size && r.rights.read && not r.rights.device && not (nat_eq r.base stack.base && nat_eq r.size stack.size)

-- the first of these regions that is such an area; the empty region if there is none
abbrev pub IsAreaRegion : List Region → Region → Region → Type 0
IsAreaRegion regions stack r = (find (is_area stack) regions ≡ Some r) ⊎ (IsNoRegion (span_of r) × (find (is_area stack) regions ≡ None))

-- the same, and it is not the first area
abbrev pub is_second : Region → Region → Region → Bool
is_second stack area r = is_area stack r && not (nat_eq r.base area.base && nat_eq r.size area.size)

-- the first of these regions that is such a second area; the empty region if there is none
abbrev pub IsSecondRegion : List Region → Region → Region → Region → Type 0
IsSecondRegion regions stack area r = (find (is_second stack area) regions ≡ Some r) ⊎ (IsNoRegion (span_of r) × (find (is_second stack area) regions ≡ None))

-- the empty region: it has no bytes, and begins where the RAM does
abbrev pub no_region : Region
no_region = record { base = 0x20000000; size = 0; rights = record { read = false; write = false; execute = false; device = false } }

-- a region; the empty one instead if it has the watched byte
abbrev pub unwatched : Option ℕ → Region → Region
unwatched None r = r
unwatched (Some at) r = if spans r at 1 then no_region else r

-- the region that has the instruction at PC, that of the stack, and the first two other ones of the RAM
pub record AreReached (regions : List Region) (pc sp : ℕ) (w : WindowRegions) : Type 0 where
  pub here : Contains regions w.flash
  pub flash : is_flash_at pc w.flash ≡ true
  pub ram : IsStackRegion regions sp w.ram
  pub area : IsAreaRegion regions w.ram w.area
  pub second : IsSecondRegion regions w.ram w.area w.second

-- the same, but with the empty region for each one of the RAM that has the watched byte
abbrev pub without_watched : Option ℕ → WindowRegions → WindowRegions
without_watched watched w = record { flash = w.flash; ram = unwatched watched w.ram; area = unwatched watched w.area; second = unwatched watched w.second }

-- the regions of a task's window while a byte is watched
pub record MakeWindow (watched : Option ℕ) (regions : List Region) (pc sp : ℕ) (w : WindowRegions) : Type 0 where
  pub all : WindowRegions
  pub reached : AreReached regions pc sp all
  pub is : w ≡ without_watched watched all

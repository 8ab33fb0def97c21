-- The regions of devices that each task may read, as a board keeps them.
use Rattle.std.specs.Prelude.{ℕ, ◌≡◌, ◌<◌, List, [], length, get_or}
use Rattle.region_check.specs.declared.Region.{Region}
use Rattle.task_table.specs.model.State.{Setup}
use Rattle.board_core.specs.fast.Sights.{io_regions_of}

-- the I/O regions of the first n tasks
pub record AreIoRegions (g : Setup) (n : ℕ) (lists : List (List Region)) : Type 0 where
  pub count : length lists ≡ n
  pub each : (c : ℕ) → c < n → get_or lists c [] ≡ io_regions_of g c

-- the I/O regions of all tasks
abbrev pub AllIoRegions : Setup → List (List Region) → Type 0
AllIoRegions g lists = AreIoRegions g (length g.tasks) lists

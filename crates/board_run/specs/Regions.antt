-- The regions that a memory text has (docs/FORMATS.md, Memories; this project's own).
use Rattle.std.specs.Prelude.{◌≡◌, ◌<◌, ◌≤◌, ◌%◌, List, Contains, AllPairs}
use Rattle.region_check.specs.declared.Region.{Region}
use Rattle.task_table.specs.model.State.{Setup}
use Rattle.board_run.specs.MemoryText.{regions_of}

-- the region begins in RAM, which has at most 2^18 bytes from 0x20000000 on
abbrev pub BeginsInRam : Region → Type 0
BeginsInRam r = (0x20000000 ≤ r.base) × (r.base < 0x20040000)

-- regions of tasks that begin in RAM do so at multiples of 256, and two that begin at the same address have
-- the same size
pub record HasRamRegions (g : Setup) : Type 0 where
  pub placed : (r : Region) → Contains (regions_of g) r → BeginsInRam r → r.base % 256 ≡ 0
  pub sized : (r q : Region) → Contains (regions_of g) r → Contains (regions_of g) q → BeginsInRam r → r.base ≡ q.base → r.size ≡ q.size

-- The list has each region that begins in RAM once, by ascending base. If several tasks have it, it is one
-- region.
pub record ListsRam (g : Setup) (rs : List Region) : Type 0 where
  pub ascending : AllPairs (λ r q. r.base < q.base) rs
  pub of_tasks : (r : Region) → Contains rs r → Contains (regions_of g) r × BeginsInRam r
  pub all : (r : Region) → Contains (regions_of g) r → BeginsInRam r → (q : Region) × Contains rs q × (q.base ≡ r.base) × (q.size ≡ r.size)

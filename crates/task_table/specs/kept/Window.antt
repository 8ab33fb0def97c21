-- The bytes of four regions of the kernel's memory, lent to a user for the time of one call.
use Rattle.std.specs.Prelude.{ℕ, List}
use Rattle.mem_banks.specs.Memory.{with_bytes}
use Rattle.mem_banks.specs.Windows.{Doing, IsOpened}
use Rattle.region_check.specs.declared.Region.{Region}
use Rattle.task_table.specs.declared.kernel.Kernel.{Kernel}
use Rattle.task_table.specs.model.State.{Setup, Turn}
use Rattle.task_table.specs.model.Effects.{changed}
use Rattle.task_table.specs.kept.Holds.{Holds, memory_of}
use Rattle.task_table.specs.kept.Openable.{span_of}

-- memory has these bytes from an address on; the turn does not record who wrote them
abbrev pub overlaid : ℕ → List ℕ → Turn → Turn
overlaid at bytes t = changed (λ s. record s { memory = with_bytes s.memory at bytes }) t

-- the same for the bytes of three regions of the RAM
abbrev pub overlaid_all : Region → List ℕ → Region → List ℕ → Region → List ℕ → Turn → Turn
overlaid_all ram after area area_after second second_after t = overlaid second.base second_after (overlaid area.base area_after (overlaid ram.base after t))

-- A user b did its work with the bytes of four regions, and is b' after it. The kernel stands for the same turn as
-- before, except that the last three regions have the bytes that the user left there.
pub record IsWindowOpened {B : Type 0} (did : Doing B) (k : Kernel) (flash ram area second : Region) (b b' : B) (k' : Kernel) : Type 0 where
  pub window : IsOpened did (memory_of k) (span_of flash) (span_of ram) (span_of area) (span_of second) b b' (memory_of k')
  pub holds : (g : Setup) (t : Turn) → Holds g k t → Holds g k' (overlaid_all ram window.after area window.area_after second window.second_after t)

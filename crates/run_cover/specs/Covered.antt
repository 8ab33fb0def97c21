-- What a listing shows of a run.
use Rattle.std.specs.Prelude.{ℕ, Bool}
use Rattle.mem_banks.specs.Memory.{Memory}
use Rattle.run_cover.specs.declared.counts.Count.{Count}
use Rattle.run_cover.specs.declared.covering.Cover.{Cover}
use Rattle.run_cover.specs.Counted.{count_of}
use Rattle.run_cover.specs.Marked.{known_of}

-- the memory at the end of the run, and for each address the count of the instruction there and whether it is
-- known
pub record Covered : Type 0 where
  pub memory : Memory
  pub counts : ℕ → Count
  pub known : ℕ → Bool

-- the same, as a cover holds it
abbrev pub covered : Memory → Cover → Covered
covered m c = record { memory = m; counts = count_of c.counts; known = known_of c.marks }

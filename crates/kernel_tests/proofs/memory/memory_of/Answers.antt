use Rattle.std.proofs.Common.{ℕ, [], arith}
use Rattle.std.specs.Prelude.{Contains}
use Rattle.mem_banks.specs.Memory.{AreRegions}
use Rattle.kernel_tests.proofs.memory.memory_of.Goals as goal

none_in : {P : Type 0} (x : ℕ × ℕ) → Contains [] x → P
none_in x h = absurd (omega (arith, h.1))

no_regions : (flash ram : ℕ) → AreRegions flash ram []
no_regions flash ram = record { some = λ x here. none_in x here; inside = λ x here. none_in x here; apart = λ x y here there. none_in x here }

pub open-requires-clause-regions : goal.open-requires-clause-regions
open-requires-clause-regions c = no_regions _ _

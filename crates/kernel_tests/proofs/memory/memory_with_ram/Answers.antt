use Rattle.std.proofs.Common.{◌≡◌, ◌<◌, ℕ, zero, suc, [], ◌∷◌, inl, ◌∙◌, sym, arith}
use Rattle.std.specs.Prelude.{Contains}
use Rattle.mem_banks.specs.Memory.{AreRegions}
use Rattle.kernel_tests.proofs.memory.memory_with_ram.Goals as goal

only_in : (x y : ℕ × ℕ) → Contains (x ∷ []) y → x ≡ y
only_in x y (zero, lt, same) = same
only_in x y (suc k, lt, same) = absurd (omega arith)

one_region : (flash ram : ℕ) → 0 < ram → AreRegions flash ram ((0x20000000, ram) ∷ [])
one_region flash ram some = record {
  some = λ x here. rw (← only_in (0x20000000, ram) x here) some;
  inside = λ x here. rw (← only_in (0x20000000, ram) x here) (inl (omega arith, omega arith));
  apart = λ x y here there. inl (sym (only_in (0x20000000, ram) x here) ∙ only_in (0x20000000, ram) y there);
}

pub open-requires-clause-regions : goal.open-requires-clause-regions
open-requires-clause-regions c = one_region _ c.args.ram c.requires.some

use Rattle.std.proofs.Common.{length, ap, ◌∙◌}
use Rattle.mem_banks.specs.Memory.{Opened}
use Rattle.mem_banks.proofs.Stores.{length-with_bytes}
use Rattle.kernel_tests.proofs.memory.store.Goals as goal

pub returns : goal.returns
returns c = ap (λ (m : Opened). length m.bytes.ram) c.store.ensures ∙ length-with_bytes _ _ _ c.requires

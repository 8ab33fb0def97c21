use Rattle.std.proofs.Common.{ap}
use Rattle.task_table.specs.declared.slot.Slot.{Slot}
use Rattle.task_table.proofs.kernel.Kernel.posted_bits.Goals as goal

pub returns : goal.returns
returns c = λ g t h. ap (λ (o : Slot). o.posted) (c.slot.ensures g t h).is

use Rattle.std.proofs.Common.{ap, get_or}
use Rattle.task_table.specs.declared.slot.Slot.{Slot}
use Rattle.task_table.specs.model.Reading.{register}
use Rattle.task_table.proofs.kernel.Kernel.register.Goals as goal

pub returns : goal.returns
unfolding register
returns c = λ g t h. ap (λ (o : Slot). get_or o.registers c.args.number 0) (c.slot-slot.ensures g t h).is

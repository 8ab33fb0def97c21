use Rattle.std.proofs.Common.{ap, ◌∙◌}
use Rattle.std.specs.Prelude.{slice_range}
use Rattle.task_table.specs.model.Reading.{arguments}
use Rattle.task_table.specs.declared.slot.Slot.{Slot}
use Rattle.task_table.proofs.kernel.Kernel.arguments.Goals as goal

pub returns : goal.returns
unfolding arguments
returns c = λ g t h. c.words_in.ensures ∙ ap (λ (o : Slot). slice_range o.registers 4 12) (c.slot-slot.ensures g t h).is

use Rattle.std.proofs.Common.{ap}
use Rattle.kernel_abi.specs.declared.TaskId.{TaskId}
use Rattle.task_table.specs.model.Reading.{present, present_id}
use Rattle.task_table.specs.declared.slot.FromId.TheVariants as from_id
use Rattle.task_table.proofs.kept.Delivery.{id_is}
use Rattle.task_table.proofs.kernel.Kernel.from_id.Goals as goal

pub returns-in-One : goal.returns-in-One
unfolding present_id
returns-in-One c = λ g t h.
    let id = id_is c.id.result (present t.state c.in-One.index) (rw c.from.ensures at (c.id.ensures g t h)) in
    rw c.in-One.is (ap (λ (x : TaskId). from_id.One x) id)

use Rattle.std.proofs.Common.{◌≡◌, ◌<◌, ◌≤◌, length, ap, arith, ◌∙◌}
use Rattle.kernel_abi.specs.declared.TaskId.{TaskId}
use Rattle.task_table.specs.model.Reading.{present, present_id}
use Rattle.task_table.specs.kept.Holds.{id_at, buffer_in}
use Rattle.task_table.proofs.kept.Delivery.{id_is, buffer_kept}
use Rattle.task_table.proofs.kernel.Kernel.buffer_for.Goals as goal

pub returns : goal.returns
unfolding present_id
returns c = λ g t h.
    let i = c.args.client in
    let small : length t.state.tasks ≤ 1024 = omega (arith, h.holds.count, c.args.self.now.few) in
    let inside : i < length t.state.tasks = omega (arith, c.requires.client, h.holds.count) in
    let same : c.id.result ≡ id_at (present t.state i) = id_is c.id.result (present t.state i) (c.id.ensures g t h.holds) in
    c.buffer_for.ensures
    ∙ ap (λ (id : TaskId). buffer_in c.slot-slot.result.wait id) same
    ∙ buffer_kept g t.state i c.args.server _ h.sane small inside (c.slot-slot.ensures g t h.holds)

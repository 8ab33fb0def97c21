use Rattle.std.proofs.Common.{◌≤◌, length, arith, ◌∙◌}
use Rattle.task_table.proofs.kept.Delivery.{taken_kept}
use Rattle.task_table.proofs.kernel.Kernel.taken.Goals as goal

pub returns : goal.returns
returns c = λ g t h.
    let small : length t.state.tasks ≤ 1024 = omega (arith, h.holds.count, c.args.self.now.few) in
    c.taken_by.ensures ∙ taken_kept g t.state c.args.client c.args.server _ h.sane small (c.slot-slot.ensures g t h.holds)

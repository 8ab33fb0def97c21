use Rattle.std.proofs.Common.{◌<◌, arith, length, refl}
use Rattle.task_table.specs.model.State.{Task}
use Rattle.task_table.specs.model.Reading.{task_at}
use Rattle.task_table.specs.model.Effects.{with_timer}
use Rattle.task_table.proofs.kept.Setting.{same_but-with_slot, kept-with_slot, timers-with_slot}
use Rattle.task_table.proofs.kernel.Kernel.set_task.Goals as goal

pub returns-clause-holds : goal.returns-clause-holds
unfolding with_timer
returns-clause-holds c = λ g t h.
    let i = c.args.task in
    let s = t.state in
    let off : Task = record (task_at s i) { timer = c.args.slot.timer } in
    let there : i < length s.tasks = omega (arith, h.count, c.requires.there) in
    let small : i < 1024 = omega (arith, c.requires.there, c.args.self.now.few) in
    c.set_slot.ensures.holds g _ _ (c.set_timer.ensures.holds g t h)
    (kept-with_slot s i c.args.slot there small c.requires.told)
    (same_but-with_slot s i off c.args.slot small c.requires.told)
    (timers-with_slot s i off c.args.slot there small c.requires.told refl)

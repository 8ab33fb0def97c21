use Rattle.std.proofs.Common.{Bool, cond, subst}
use Rattle.task_table.specs.model.Rows.{line_controlled}
use Rattle.task_table.specs.kept.Holds.{Holds}
use Rattle.timer_irq.proofs.controlling.control_if.Goals as goal

pub returns-then-is_owner-clause-holds : goal.returns-then-is_owner-clause-holds
returns-then-is_owner-clause-holds c = λ g t h.
    let P : Bool → Type 0 = λ b. Holds g c.control.new.k (cond b (line_controlled c.args.caller c.args.bits c.args.enable c.args.asked c.args.owner.now.line t) t) in
    subst P c.if-is_owner.ensures (c.control.ensures.holds g t h)

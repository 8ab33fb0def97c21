use Rattle.std.proofs.Common.{is_some, ap, sym, ◌∙◌}
use Rattle.task_table.proofs.kept.Steps as steps
use Rattle.task_table.proofs.model.Changes.{timers_same, task_at-without_listen, same_but-without_listen, without_listen_none}
use Rattle.task_table.proofs.kernel.Kernel.stop_listening.Goals as goal

pub returns-then-is_some-clause-holds : goal.returns-then-is_some-clause-holds
returns-then-is_some-clause-holds c = λ g t h.
    let i = c.args.task in
    let kept = c.slot-slot.ensures g t h in
    let none = steps.listens_no_call t.state i _ kept (ap is_some (sym c.listen.ensures) ∙ sym c.if-is_some.ensures) in
    c.set_slot.ensures.holds g t _ h (steps.kept_no_listen t.state i _ kept none) (same_but-without_listen t.state i) (timers_same _ _ i (task_at-without_listen t.state i i))

pub returns-else-is_some-clause-holds : goal.returns-else-is_some-clause-holds
returns-else-is_some-clause-holds c = λ g t h.
    let none = steps.no_listen t.state c.args.task _ (c.slot-slot.ensures g t h) (ap is_some (sym c.listen.ensures) ∙ sym c.if-is_some.ensures) in
    rw (without_listen_none t.state c.args.task none) h

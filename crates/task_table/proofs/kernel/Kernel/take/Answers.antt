use Rattle.task_table.proofs.model.Changes.{timers_same}
use Rattle.task_table.proofs.kept.Messages.{kept_taken}
use Rattle.task_table.proofs.model.Waiting.{task_at-with_taken, same_but-with_taken}
use Rattle.task_table.proofs.kernel.Kernel.take.Goals as goal

pub returns-clause-holds : goal.returns-clause-holds
returns-clause-holds c = λ g t h.
    c.set_slot.ensures.holds g t _ h (kept_taken t.state c.args.client _ _ (c.slot-slot.ensures g t h) c.once_taken-slot.ensures) (same_but-with_taken t.state c.args.client) (timers_same _ _ c.args.client (task_at-with_taken t.state c.args.client c.args.client))

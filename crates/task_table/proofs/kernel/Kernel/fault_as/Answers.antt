use Rattle.std.proofs.lemmas.Bool.{ne_eqb, eq-eqb}
use Rattle.task_table.specs.model.Effects.{faulted_as}
use Rattle.task_table.proofs.kernel.Kernel.fault_as.Goals as goal

pub returns-then-task-ne0-clause-holds : goal.returns-then-task-ne0-clause-holds
unfolding faulted_as
returns-then-task-ne0-clause-holds c = λ g t h.
    let h1 = c.set_health.ensures.holds g t h in
    let h2 = c.stop_listening.ensures.holds g _ h1 in
    let h3 = c.note.ensures.holds g _ h2 in
    let h4 = c.close.ensures.holds g _ h3 in
    rw (ne_eqb _ _ c.if-task-ne0.true) (rw (c.fault_bits-bits.ensures g _ h4) at (c.post.ensures.holds g _ h4))

pub returns-else-task-ne0-clause-holds : goal.returns-else-task-ne0-clause-holds
unfolding faulted_as
returns-else-task-ne0-clause-holds c = λ g t h.
    let h1 = c.set_health.ensures.holds g t h in
    let h2 = c.stop_listening.ensures.holds g _ h1 in
    let h3 = c.note.ensures.holds g _ h2 in
    let h4 = c.close.ensures.holds g _ h3 in
    rw (eq-eqb _ _ c.if-task-ne0.false) h4

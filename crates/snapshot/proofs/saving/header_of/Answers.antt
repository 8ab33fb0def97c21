use Rattle.std.proofs.Common.{◌∙◌}
use Rattle.snapshot.proofs.StandsForSome.{header_stood}
use Rattle.snapshot.proofs.saving.header_of.Goals as goal

pub returns : goal.returns
returns g c = λ x s st.
    header_stood s _ _ _ _ _ _ _ (c.turns.ensures ∙ st.holds.turns) (c.task_count.ensures.tasks x s st) (c.ram_len.ensures.len x s st) (c.now.ensures x s st) (c.current.ensures x s st) (c.next_call.ensures x s st) (c.device_count.ensures x s st)

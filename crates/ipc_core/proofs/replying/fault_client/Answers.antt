use Rattle.std.proofs.Common.{is_some, ap, sym, ◌∙◌}
use Rattle.task_table.specs.model.Reading.{taken_by}
use Rattle.ipc_core.proofs.Rows.{kept_some, kept_none}
use Rattle.ipc_core.proofs.replying.fault_client.Goals as goal

pub returns-then-is_some-clause-holds : goal.returns-then-is_some-clause-holds
returns-then-is_some-clause-holds c = λ g t h.
    let k = kept_some (taken_by t.state c.args.client c.args.caller) (ap is_some (sym (c.taken.ensures g t h)) ∙ sym c.if-is_some.ensures) in
    rw k.1 (c.reply_fault.ensures.holds g t k.0 h k.1)

pub returns-else-is_some-clause-holds : goal.returns-else-is_some-clause-holds
returns-else-is_some-clause-holds c = λ g t h.
    rw (kept_none (taken_by t.state c.args.client c.args.caller) (ap is_some (sym (c.taken.ensures g t h)) ∙ sym c.if-is_some.ensures)) (c.go_on.ensures.holds g t h.holds)

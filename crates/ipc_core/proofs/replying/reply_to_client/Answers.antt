use Rattle.std.proofs.Common.{sym}
use Rattle.task_table.specs.model.Reading.{taken_by}
use Rattle.task_table.specs.kept.Holds.{kept_call}
use Rattle.task_table.proofs.kept.Steps.{some_mapped, none_mapped}
use Rattle.ipc_core.proofs.replying.reply_to_client.Goals as goal

pub reply_checked-requires-clause-taken : goal.reply_checked-requires-clause-taken
reply_checked-requires-clause-taken c =
    let r = c.requires.stood in
    record { setup = r.0; turn = r.1; stands = r.2; taken = sym (c.in-Some.ensures r.0 r.1 r.2) }

pub returns-in-Some-clause-holds : goal.returns-in-Some-clause-holds
returns-in-Some-clause-holds c = λ g t h.
    let k = some_mapped kept_call (taken_by t.state c.args.client c.args.caller) _ (sym (c.in-Some.ensures g t h)) in
    rw k.1 (c.reply_checked.ensures.holds g t k.0 h k.1 k.2)

pub returns-in-None-clause-holds : goal.returns-in-None-clause-holds
returns-in-None-clause-holds c = λ g t h.
    rw (none_mapped kept_call (taken_by t.state c.args.client c.args.caller) (sym (c.in-None.ensures g t h))) (c.go_on.ensures.holds g t h.holds)

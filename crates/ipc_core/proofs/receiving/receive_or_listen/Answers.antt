use Rattle.std.proofs.Common.{sym}
use Rattle.task_table.specs.model.Reading.{offer_by}
use Rattle.task_table.specs.kept.Holds.{kept_call}
use Rattle.task_table.proofs.kept.Steps.{some_mapped, none_mapped}
use Rattle.ipc_core.proofs.receiving.receive_or_listen.Goals as goal

pub receive-requires-clause-receivable : goal.receive-requires-clause-receivable
receive-requires-clause-receivable c =
    let s = c.requires.ready in
    record { receiving = s; offered = sym (c.in-Some.ensures s.setup s.turn s.stands) }

pub returns-in-Some-clause-holds : goal.returns-in-Some-clause-holds
returns-in-Some-clause-holds c = λ g t h idle.
    let k = some_mapped kept_call (offer_by t.state c.args.client c.args.caller) _ (sym (c.in-Some.ensures g t h)) in
    rw k.1 (c.receive.ensures.holds g t k.0 h k.1 k.2)

pub returns-in-None-clause-holds : goal.returns-in-None-clause-holds
returns-in-None-clause-holds c = λ g t h idle.
    rw (none_mapped kept_call (offer_by t.state c.args.client c.args.caller) (sym (c.in-None.ensures g t h))) (c.listen.ensures.holds g t h.holds idle)

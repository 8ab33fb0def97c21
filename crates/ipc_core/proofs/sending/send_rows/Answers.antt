use Rattle.std.proofs.Common.{◌≡◌, ap, ◌∙◌, subst}
use Rattle.kernel_abi.specs.Arguments.{send_args}
use Rattle.task_table.specs.model.Reading.{arguments}
use Rattle.task_table.specs.model.Sends.{sent}
use Rattle.ipc_core.proofs.Rows.{Sent, is_other}
use Rattle.ipc_core.proofs.sending.send_rows.Goals as goal

pub returns-in-None-clause-holds : goal.returns-in-None-clause-holds
unfolding sent
returns-in-None-clause-holds c = λ g t h idle.
    let i = c.args.caller in
    let same : c.of-args.result ≡ send_args (arguments t.state i) = c.of-args.ensures ∙ ap send_args (c.arguments.ensures g t h.holds) in
    subst (Sent g c.misuse.new.self i t) same (rw (c.in-None.ensures.named g t h.holds) (c.misuse.ensures.holds g t h.holds))

pub returns-in-Some-clause-holds : goal.returns-in-Some-clause-holds
unfolding sent
returns-in-Some-clause-holds c = λ g t h idle.
    let i = c.args.caller in
    let same : c.of-args.result ≡ send_args (arguments t.state i) = c.of-args.ensures ∙ ap send_args (c.arguments.ensures g t h.holds) in
    let who = c.in-Some.ensures.named g t h.holds in
    let other = is_other t.state i c.of-args.result.recipient.number c.in-Some.recipient who in
    subst (Sent g c.send_checked.new.k i t) same (rw other (c.send_checked.ensures.holds g t h idle who))

use Rattle.std.proofs.Common.{◌≡◌, ap, ◌∙◌, subst}
use Rattle.kernel_abi.specs.Arguments.{reply_args}
use Rattle.task_table.specs.model.Reading.{arguments}
use Rattle.task_table.specs.model.Sends.{replied}
use Rattle.ipc_core.proofs.Rows.{Replied}
use Rattle.ipc_core.proofs.replying.reply_rows.Goals as goal

pub returns-in-Out-clause-holds : goal.returns-in-Out-clause-holds
unfolding replied
returns-in-Out-clause-holds c = λ g t h.
    let i = c.args.caller in
    let same : c.of-args.result ≡ reply_args (arguments t.state i) = c.of-args.ensures ∙ ap reply_args (c.arguments.ensures g t h.holds) in
    subst (Replied g c.misuse.new.self i t) same (rw (c.in-Out.ensures.found g t h.holds) (c.misuse.ensures.holds g t h.holds))

pub returns-in-Dead-clause-holds : goal.returns-in-Dead-clause-holds
unfolding replied
returns-in-Dead-clause-holds c = λ g t h.
    let i = c.args.caller in
    let same : c.of-args.result ≡ reply_args (arguments t.state i) = c.of-args.ensures ∙ ap reply_args (c.arguments.ensures g t h.holds) in
    let dead = c.in-Dead.ensures.found g t h.holds in
    subst (Replied g c.go_on.new.self i t) same (rw (dead.0, dead.1) (c.go_on.ensures.holds g t h.holds))

pub returns-in-Live-clause-holds : goal.returns-in-Live-clause-holds
unfolding replied
returns-in-Live-clause-holds c = λ g t h.
    let i = c.args.caller in
    let same : c.of-args.result ≡ reply_args (arguments t.state i) = c.of-args.ensures ∙ ap reply_args (c.arguments.ensures g t h.holds) in
    let live = c.in-Live.ensures.found g t h.holds in
    subst (Replied g c.reply_to_client.new.k i t) same (rw (live.0, live.1, ← live.2) (c.reply_to_client.ensures.holds g t h))

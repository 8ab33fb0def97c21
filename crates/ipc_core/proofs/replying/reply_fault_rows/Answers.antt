use Rattle.std.proofs.Common.{◌≡◌, false, None, ap, ◌∙◌, subst}
use Rattle.kernel_abi.specs.Arguments.{reply_args}
use Rattle.task_table.specs.model.Reading.{arguments, is_out}
use Rattle.task_table.specs.model.Sends.{reply_faulted}
use Rattle.ipc_core.proofs.Rows.{ReplyFaulted, bad_reason, good_reason}
use Rattle.ipc_core.proofs.replying.reply_fault_rows.Goals.{in_default-None-via-in-Dead+in-None, in_default-None-via-in-Live+in-None}
use Rattle.ipc_core.proofs.replying.reply_fault_rows.Goals as goal

pub returns-in-Out-default-clause-holds : goal.returns-in-Out-default-clause-holds
unfolding reply_faulted
returns-in-Out-default-clause-holds c = λ g t h.
    let i = c.args.caller in
    let same : c.of-args.result ≡ reply_args (arguments t.state i) = c.of-args.ensures ∙ ap reply_args (c.arguments.ensures g t h.holds) in
    let out = rw c.in-Out-default.is-0 at (c.lookup.ensures.found g t h.holds) in
    subst (ReplyFaulted g c.misuse.new.self i t) same (rw out (c.misuse.ensures.holds g t h.holds))

pub returns-in-Dead-default-clause-holds : goal.returns-in-Dead-default-clause-holds
unfolding reply_faulted
returns-in-Dead-default-clause-holds c = λ g t h.
    let i = c.args.caller in
    let same : c.of-args.result ≡ reply_args (arguments t.state i) = c.of-args.ensures ∙ ap reply_args (c.arguments.ensures g t h.holds) in
    let dead = rw c.in-Dead-default.is-0 at (c.lookup.ensures.found g t h.holds) in
    let code = good_reason c.of.result c.of-args.result.code c.in-Dead-default.field-0-1 c.of.ensures c.in-Dead-default.is-1 in
    subst (ReplyFaulted g c.go_on.new.self i t) same (rw (dead.0, code.0, dead.1) (c.go_on.ensures.holds g t h.holds))

pub returns-in-Live-Some-clause-holds : goal.returns-in-Live-Some-clause-holds
unfolding reply_faulted
returns-in-Live-Some-clause-holds c = λ g t h.
    let i = c.args.caller in
    let same : c.of-args.result ≡ reply_args (arguments t.state i) = c.of-args.ensures ∙ ap reply_args (c.arguments.ensures g t h.holds) in
    let live = rw c.in-Live-Some.is-0 at (c.lookup.ensures.found g t h.holds) in
    let code = good_reason c.of.result c.of-args.result.code c.in-Live-Some.reason c.of.ensures c.in-Live-Some.is-1 in
    subst (ReplyFaulted g c.fault_client.new.k i t) same (rw (live.0, code.0, live.1, ← live.2, ← code.1) (c.fault_client.ensures.holds g t h))

pub returns-in_default-None-clause-holds : goal.returns-in_default-None-clause-holds
unfolding reply_faulted
returns-in_default-None-clause-holds c = λ g t h.
    let i = c.args.caller in
    let same : c.of-args.result ≡ reply_args (arguments t.state i) = c.of-args.ensures ∙ ap reply_args (c.arguments.ensures g t h.holds) in
    let there : is_out t.state c.of-args.result.client.number ≡ false =
    elim c.in_default-None.branch [
      | in_default-None-via-in-Dead+in-None w ↦ (rw w.in_default-None.is-0 at (c.lookup.ensures.found g t h.holds)).0
      | in_default-None-via-in-Live+in-None w ↦ (rw w.in_default-None.is-0 at (c.lookup.ensures.found g t h.holds)).0
    ] in
    let none : c.of.result ≡ None =
    elim c.in_default-None.branch [
      | in_default-None-via-in-Dead+in-None w ↦ w.in_default-None.is-1
      | in_default-None-via-in-Live+in-None w ↦ w.in_default-None.is-1
    ] in
    subst (ReplyFaulted g c.misuse-in_default-None.new.self i t) same (rw (there, bad_reason c.of.result c.of-args.result.code c.of.ensures none) (c.misuse-in_default-None.ensures.holds g t h.holds))

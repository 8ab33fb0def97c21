use Rattle.std.proofs.Common.{◌≡◌, ap, ◌∙◌, subst}
use Rattle.kernel_abi.specs.Arguments.{id_args}
use Rattle.task_table.specs.model.Reading.{arguments, dead_code_for}
use Rattle.task_table.specs.model.Sends.{post_made}
use Rattle.ipc_core.proofs.Rows.{PostMade}
use Rattle.ipc_core.proofs.posting.post_rows.Goals as goal

pub returns-in-Out-clause-holds : goal.returns-in-Out-clause-holds
unfolding post_made
returns-in-Out-clause-holds c = λ g t h.
    let i = c.args.caller in
    let same : c.of-args.result ≡ id_args (arguments t.state i) = c.of-args.ensures ∙ ap id_args (c.arguments.ensures g t h) in
    subst (PostMade g c.misuse.new.self i t) same (rw (c.in-Out.ensures.found g t h) (c.misuse.ensures.holds g t h))

pub returns-in-Dead-clause-holds : goal.returns-in-Dead-clause-holds
unfolding post_made dead_code_for
returns-in-Dead-clause-holds c = λ g t h.
    let i = c.args.caller in
    let same : c.of-args.result ≡ id_args (arguments t.state i) = c.of-args.ensures ∙ ap id_args (c.arguments.ensures g t h) in
    let dead = c.in-Dead.ensures.found g t h in
    subst (PostMade g c.answer.new.self i t) same (rw (dead.0, dead.1, ← dead.2, ← c.dead_code.ensures) (c.answer.ensures.holds g t h))

pub returns-in-Live-clause-holds : goal.returns-in-Live-clause-holds
unfolding post_made
returns-in-Live-clause-holds c = λ g t h.
    let i = c.args.caller in
    let same : c.of-args.result ≡ id_args (arguments t.state i) = c.of-args.ensures ∙ ap id_args (c.arguments.ensures g t h) in
    let live = c.in-Live.ensures.found g t h in
    subst (PostMade g c.answer-in-Live.new.self i t) same (rw (live.0, live.1, ← live.2) (c.answer-in-Live.ensures.holds g _ (c.post.ensures.holds g t h)))

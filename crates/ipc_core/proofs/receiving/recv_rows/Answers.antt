use Rattle.std.proofs.Common.{◌≡◌, None, ap, sym, ◌∙◌, subst}
use Rattle.kernel_abi.specs.Arguments.{recv_args}
use Rattle.kernel_abi.specs.declared.arguments.RecvArgs.{RecvArgs}
use Rattle.region_check.specs.declared.Right.TheVariants.{Write}
use Rattle.task_table.specs.model.Reading.{arguments, bad_byte}
use Rattle.task_table.specs.model.Rows.{buffer_of, received}
use Rattle.ipc_core.specs.Named.{IsSender}
use Rattle.ipc_core.proofs.Rows.{Received, no_misuse}
use Rattle.ipc_core.proofs.receiving.recv_rows.Goals as goal

pub receive_input-requires-clause-ready : goal.receive_input-requires-clause-ready
receive_input-requires-clause-ready c =
    let r = c.requires.stood in
    let g = r.0 in
    let t = r.1 in
    let h = r.2 in
    let same : c.of-args.result ≡ recv_args (arguments t.state c.args.caller) = c.of-args.ensures ∙ ap recv_args (c.arguments.ensures g t h.holds) in
    let good : bad_byte g c.args.caller Write (buffer_of c.of-args.result) ≡ None = sym (c.in_default.ensures g t h.holds) in
    record { setup = g; turn = t; stands = h; writable = rw same at good }

pub returns-then-not-is_valid-clause-holds : goal.returns-then-not-is_valid-clause-holds
unfolding received
returns-then-not-is_valid-clause-holds c = λ g t h idle.
    let i = c.args.caller in
    let same : c.of-args.result ≡ recv_args (arguments t.state i) = c.of-args.ensures ∙ ap recv_args (c.arguments.ensures g t h.holds) in
    subst (Received g c.misuse.new.self i c.args.best t) same (rw (← c.if-not-is_valid.ensures) (c.misuse.ensures.holds g t h.holds))

pub returns-in-Some-clause-holds : goal.returns-in-Some-clause-holds
unfolding received
returns-in-Some-clause-holds c = λ g t h idle.
    let i = c.args.caller in
    let same : c.of-args.result ≡ recv_args (arguments t.state i) = c.of-args.ensures ∙ ap recv_args (c.arguments.ensures g t h.holds) in
    subst (Received g c.deny.new.self i c.args.best t) same (rw (← c.if-not-is_valid.ensures, ← c.in-Some.ensures g t h.holds) (c.deny.ensures.holds g t h.holds))

pub returns-in-None-clause-holds : goal.returns-in-None-clause-holds
unfolding received
returns-in-None-clause-holds c = λ g t h idle.
    let i = c.args.caller in
    let same : c.of-args.result ≡ recv_args (arguments t.state i) = c.of-args.ensures ∙ ap recv_args (c.arguments.ensures g t h.holds) in
    let w = c.in-None.ensures.named g t h.holds in
    subst (Received g c.misuse-in-None.new.self i c.args.best t) same (rw (← c.if-not-is_valid.ensures, ← c.in_default.ensures g t h.holds, w.0, w.1, w.2) (c.misuse-in-None.ensures.holds g t h.holds))

pub returns-in-Some-sender_of-clause-holds : goal.returns-in-Some-sender_of-clause-holds
unfolding received
returns-in-Some-sender_of-clause-holds c = λ g t h idle.
    let i = c.args.caller in
    let x = recv_args (arguments t.state i) in
    let same : c.of-args.result ≡ x = c.of-args.ensures ∙ ap recv_args (c.arguments.ensures g t h.holds) in
    let who : IsSender t.state i c.of-args.result c.in-Some-sender_of.sender = c.in-Some-sender_of.ensures.named g t h.holds in
    let there : IsSender t.state i x c.in-Some-sender_of.sender = rw same at who in
    let h1 = c.receive_input.ensures.holds g t h idle (ap (λ (a : RecvArgs). a.mask) same) there in
    let none = no_misuse t.state i c.of-args.result c.in-Some-sender_of.sender who in
    subst (Received g c.receive_input.new.k i c.args.best t) same (rw (← c.if-not-is_valid.ensures, ← c.in_default.ensures g t h.holds, none) h1)

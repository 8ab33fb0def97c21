use Rattle.std.proofs.Common.{◌≡◌, ap, ◌∙◌, subst}
use Rattle.kernel_abi.specs.Arguments.{recv_args}
use Rattle.task_table.specs.model.State.{Birth, Own, Slice}
use Rattle.task_table.specs.model.Reading.{arguments, offer_by}
use Rattle.task_table.specs.model.Effects.{returned, past_syscall, handed}
use Rattle.task_table.specs.model.Rows.{buffer_of}
use Rattle.task_table.specs.kept.Holds.{Holds, kept_call}
use Rattle.task_table.proofs.model.Clients.{offered_call}
use Rattle.task_table.proofs.model.Ranges.{within_ram-good}
use Rattle.task_table.proofs.model.Receives.{memory-past_syscall}
use Rattle.task_table.proofs.kept.Steps.{some_mapped}
use Rattle.task_table.proofs.kernel.Kernel.receive.Goals as goal

pub hand_over-requires-clause-source : goal.hand_over-requires-clause-source
hand_over-requires-clause-source c =
    let r = c.requires.receivable in
    let s = r.receiving in
    let k = some_mapped kept_call (offer_by s.turn.state c.args.client c.args.server) _ r.offered in
    let o = offered_call s.setup s.turn.state c.args.client c.args.server k.0 s.stands.sane k.1 in
    let h1 = c.go_past_syscall.ensures.holds s.setup s.turn s.stands.holds in
    rw (h1.memory, memory-past_syscall, ← k.2) o.readable

pub hand_over-requires-clause-target : goal.hand_over-requires-clause-target
hand_over-requires-clause-target c =
    let s = c.requires.receivable.receiving in
    let i = c.args.server in
    let x = recv_args (arguments s.turn.state i) in
    let same : c.buffer_of.result ≡ buffer_of x = c.buffer_of.ensures ∙ ap buffer_of (c.of-args.ensures ∙ ap recv_args (c.arguments.ensures s.setup s.turn s.stands.holds)) in
    let h1 = c.go_past_syscall.ensures.holds s.setup s.turn s.stands.holds in
    let there = within_ram-good s.setup s.turn.state.memory i (buffer_of x) s.stands.sane.steady.placed s.writable in
    rw (h1.memory, memory-past_syscall, same) there

pub returns-clause-holds : goal.returns-clause-holds
returns-clause-holds c = λ g t k h offered same.
    let i = c.args.server in
    let buffer : c.buffer_of.result ≡ buffer_of (recv_args (arguments t.state i)) = c.buffer_of.ensures ∙ ap buffer_of (c.of-args.ensures ∙ ap recv_args (c.arguments.ensures g t h.holds)) in
    let o = offered_call g t.state c.args.client i k h.sane offered in
    let h1 = c.go_past_syscall.ensures.holds g t h.holds in
    let h2 = c.hand_over.ensures.holds g _ Own k h1 same (ap (λ (b : Birth). b.index) o.client) o.server in
    let P : Slice → Type 0 = λ b. Holds g c.note_return.new.self (returned i (handed Own k b (past_syscall i t))) in
    subst P buffer (c.note_return.ensures.holds g _ h2)

use Rattle.std.proofs.Common.{◌≡◌, ◌<◌, length, Some, None, ap, sym, ◌∙◌, arith, refl}
use Rattle.region_check.specs.declared.Right.TheVariants.{Read}
use Rattle.task_table.specs.model.State.{Message}
use Rattle.task_table.specs.model.Reading.{present, listen_of}
use Rattle.task_table.specs.model.Effects.{past_syscall}
use Rattle.task_table.specs.model.Sends.{call_made, message_of}
use Rattle.task_table.specs.kept.Messages.{buffer_for}
use Rattle.task_table.specs.declared.slot.OpenCall.{OpenCall}
use Rattle.task_table.proofs.kept.Delivery.{taken_into, not_taken_into, listener_ram, listen_of-past_syscall, next_call-past_syscall, memory-offered}
use Rattle.task_table.proofs.kept.Messages.{present-past_syscall}
use Rattle.task_table.proofs.model.Ranges.{within-good}
use Rattle.task_table.proofs.model.Receives.{idle-past_syscall, memory-past_syscall}
use Rattle.task_table.proofs.kernel.Kernel.send.Goals as goal

pub offer-requires-clause-number : goal.offer-requires-clause-number
offer-requires-clause-number c =
    let s = c.requires.sendable in
    let h1 = c.go_past_syscall.ensures.holds s.setup s.turn s.stands.holds in
    let same = h1.next_call ∙ next_call-past_syscall c.args.caller s.turn ∙ sym s.stands.holds.next_call in
    omega (arith, same, c.requires.number)

pub hand_over-requires-clause-source : goal.hand_over-requires-clause-source
hand_over-requires-clause-source c =
    let s = c.requires.sendable in
    let i = c.args.caller in
    let u = past_syscall i s.turn in
    let k = call_made u.state i c.args.args.now c.args.server in
    let h1 = c.go_past_syscall.ensures.holds s.setup s.turn s.stands.holds in
    let call = c.call_to-call.ensures s.setup u h1 in
    let h2 = c.offer.ensures.holds s.setup u k h1 (idle-past_syscall i s.turn i s.idle) (sym call) refl refl in
    let message = ap (λ (x : OpenCall). x.message) call in
    rw (message, h2.memory, memory-offered k u, memory-past_syscall) (within-good s.setup s.turn.state.memory i Read (message_of c.args.args.now) s.stands.sane.steady.placed s.readable)

pub hand_over-requires-clause-target : goal.hand_over-requires-clause-target
hand_over-requires-clause-target c =
    let s = c.requires.sendable in
    let i = c.args.caller in
    let u = past_syscall i s.turn in
    let k = call_made u.state i c.args.args.now c.args.server in
    let h1 = c.go_past_syscall.ensures.holds s.setup s.turn s.stands.holds in
    let h2 = c.offer.ensures.holds s.setup u k h1 (idle-past_syscall i s.turn i s.idle) (sym (c.call_to-call.ensures s.setup u h1)) refl refl in
    rw (h2.memory, memory-offered k u, memory-past_syscall) (listener_ram s.setup s.turn.state (present s.turn.state i) c.args.server _ s.stands.sane (sym (c.in-Some.ensures s.setup s.turn s.stands)))

pub returns-in-Some-clause-holds : goal.returns-in-Some-clause-holds
returns-in-Some-clause-holds c = λ g t h idle apart.
    let i = c.args.caller in
    let j = c.args.server in
    let inside : i < length t.state.tasks = omega (arith, c.requires.there, h.holds.count) in
    let u = past_syscall i t in
    let k = call_made u.state i c.args.args.now j in
    let h1 = c.go_past_syscall.ensures.holds g t h.holds in
    let call = c.call_to-call.ensures g u h1 in
    let h2 = c.offer.ensures.holds g u k h1 (idle-past_syscall i t i idle) (sym call) refl refl in
    let h3 = c.hand_over.ensures.holds g _ (Message k.number) k h2 (sym call) refl refl in
    let h4 = c.note_return.ensures.holds g _ h3 in
    let into : buffer_for k.client (listen_of u.state j) ≡ Some c.in-Some.buffer = rw (listen_of-past_syscall i t j, present-past_syscall i t i inside) (sym (c.in-Some.ensures g t h)) in
    rw (taken_into k (listen_of u.state j) c.in-Some.buffer _ into) h4

pub returns-in_default-clause-holds : goal.returns-in_default-clause-holds
returns-in_default-clause-holds c = λ g t h idle apart.
    let i = c.args.caller in
    let j = c.args.server in
    let inside : i < length t.state.tasks = omega (arith, c.requires.there, h.holds.count) in
    let u = past_syscall i t in
    let k = call_made u.state i c.args.args.now j in
    let h1 = c.go_past_syscall.ensures.holds g t h.holds in
    let h2 = c.offer.ensures.holds g u k h1 (idle-past_syscall i t i idle) (sym (c.call_to-call.ensures g u h1)) refl refl in
    let none : buffer_for k.client (listen_of u.state j) ≡ None = rw (listen_of-past_syscall i t j, present-past_syscall i t i inside) (sym (c.in_default.ensures g t h)) in
    rw (not_taken_into k (listen_of u.state j) _ none) h2

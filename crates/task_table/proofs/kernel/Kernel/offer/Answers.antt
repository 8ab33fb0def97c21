use Rattle.std.proofs.Common.{◌≡◌, ap}
use Rattle.kernel_abi.specs.declared.Note.TheVariants as note
use Rattle.task_table.specs.kept.Holds.{IsKept}
use Rattle.task_table.specs.model.Reading.{task_at, call_of, listen_of}
use Rattle.task_table.specs.model.Effects.{offered, with_call}
use Rattle.task_table.specs.declared.slot.OpenCall.{OpenCall}
use Rattle.task_table.proofs.model.Changes.{timers_same}
use Rattle.task_table.proofs.kept.Delivery.{task_at-with_call, kept-with_call, same_but-with_call}
use Rattle.task_table.proofs.kernel.Kernel.offer.Goals as goal

pub returns-clause-holds : goal.returns-clause-holds
unfolding offered task_at call_of listen_of
returns-clause-holds c = λ g t k h idle same client server.
    let i = c.args.client in
    let call = c.args.call.now in
    let number : k.number ≡ call.number = ap (λ (x : OpenCall). x.number) same in
    let as_noted : note.Offer call.number i c.args.server ≡ note.Offer k.number k.client.index k.server.index = cc in
    let h1 = c.use_number.ensures.holds g t h in
    let read = c.slot-slot.ensures g _ h1 in
    let kept : IsKept t.state i c.slot-slot.result = record { is = read.is; alone = read.alone } in
    let h2 = c.set_slot.ensures.holds g _ _ h1 (kept-with_call t.state k i _ call client kept idle same) (same_but-with_call t.state k i client) (timers_same t.state (with_call k t.state) i (task_at-with_call t.state k i)) in
    rw as_noted at (c.note.ensures.holds g _ h2)
